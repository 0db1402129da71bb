-- Which plain numbers and wrong values the code's stand for. Assumes nothing: these are definitions.
use Rattle.std.specs.Prelude.{◌≡◌, ℕ, ℤ, pos, negsuc, Bool, true, false, Ok, Err, Result, Option, MatchOption}
use Rattle.plain.specs.Commands.{small_num}
use Rattle.plain.specs.Read as read
use Rattle.plain.specs.Term as plain
use Rattle.numbers.specs.declared.wrong.Wrong.{Wrong}
use Rattle.numbers.specs.declared.wrong.Wrong.TheVariants.{Kind, Divisor, Size, Name, Circle, Gone, Missing, Count}
use Rattle.numbers.specs.declared.millionths.Millionths.{Millionths}

abbrev pub wrong_number : Wrong → ℕ
wrong_number Kind = 1
wrong_number Divisor = 2
wrong_number Size = 3
wrong_number Name = 4
wrong_number Circle = 5
wrong_number Gone = 6
wrong_number Missing = 7
wrong_number Count = 8

-- minus n is n + 1 below zero
abbrev pub signed : ℤ → plain.Num
signed (pos n) = plain.plus n
signed (negsuc n) = plain.minus n

abbrev pub num_of : Millionths → plain.Num
num_of m = signed m.count

-- what reckoning made
abbrev pub made_of : Result Millionths Wrong → plain.Value
made_of (Ok m) = plain.num (num_of m)
made_of (Err w) = plain.wrong (wrong_number w)

-- the number that a flag and so many millionths spell, or none where it is too large
abbrev pub IsFromSign : Bool → ℕ → Option Millionths → Type 0
IsFromSign below_zero millionths res =
    MatchOption res (small_num (read.signed below_zero millionths) ≡ false)
    (λ m. (small_num (read.signed below_zero millionths) ≡ true) × (num_of m ≡ read.signed below_zero millionths))
