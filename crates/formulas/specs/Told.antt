-- What the code tells of bytes: the parts of the command that they spell, if it is of the core, or why it is refused.
-- Assumes nothing: these are definitions, and one statement, of which a theorem function has a proof.
use Rattle.std.specs.Prelude.{◌≡◌, ℕ, Bool, true, false, List, drop, Some, None, Ok, Err, Option, Result, MatchOption}
use Rattle.std.specs.Borrow.{Bor}
use Rattle.plain.specs.Term.{pick, Box, Term, Terms, area}
use Rattle.plain.specs.Commands as plain
use Rattle.plain.specs.Commands.{core, core_term, core_terms, term_spelled}
use Rattle.plain.specs.Promise.{Said, Never}
use Rattle.plain.specs.Read.{Behind, Got, got, nothing, read_command}
use Rattle.spelling.specs.declared.place.Place.{Place}
use Rattle.spelling.specs.declared.place.Area.{Area}
use Rattle.spelling.specs.declared.place.Reference.{Reference}
use Rattle.spelling.specs.declared.kinds.Axis.{Axis}
use Rattle.spelling.specs.declared.kinds.Axis.TheVariants as axis
use Rattle.spelling.specs.Meaning.{ref_of}
use Rattle.formulas.specs.declared.command.Command.{Command}
use Rattle.formulas.specs.declared.command.Command.TheVariants.{Set, Wipe, Show, Rows, Written}
use Rattle.formulas.specs.declared.command.Refusal.{Refusal}
use Rattle.formulas.specs.declared.command.Refusal.TheVariants.{Malformed, Unknown}

-- the number of each refusal
abbrev pub number_of : Refusal → ℕ
number_of Malformed = 1
number_of Unknown = 2

abbrev pub at_place : ℕ → ℕ → Place
at_place c r = record { col = c; row = r }

abbrev pub area_of : Box → Area
area_of b = record { first = at_place b.left b.top; last = at_place b.right b.bottom }

-- the parts of a command of the core, without its formula; one that is not of the core is refused
abbrev pub parts : plain.Command → Result Command Refusal
parts (plain.set_cell c r t) = pick (core_term t) (Ok (Set (at_place c r))) (Err Unknown)
parts (plain.wipe b) = Ok (Wipe (area_of b))
parts (plain.show c r) = Ok (Show (at_place c r))
parts (plain.rows b) = Ok (Rows (area_of b))
parts (plain.written c r) = Ok (Written (at_place c r))
parts (plain.name n t) = Err Unknown
parts (plain.unname n) = Err Unknown
parts (plain.insert v p k) = Err Unknown
parts (plain.remove v p k) = Err Unknown
parts (plain.copy b c r) = Err Unknown

-- a formula that is passed over, by whether it is of the core
abbrev pub Passed : Got Term → Bool → List ℕ → Type 0
Passed g b bs = (t : Term) × (g ≡ got t bs) × (core_term t ≡ b)

abbrev pub PassedAll : Got Terms → Bool → List ℕ → Type 0
PassedAll g b bs = (ts : Terms) × (g ≡ got ts bs) × (core_terms ts ≡ b)

abbrev pub Passes : Got Term → Option (Bool × Bor (List ℕ)) → Type 0
Passes g r = MatchOption r (g ≡ nothing) (λ p. Passed g p.0 p.1.now)

abbrev pub PassesAll : Got Terms → Option (Bool × Bor (List ℕ)) → Type 0
PassesAll g r = MatchOption r (g ≡ nothing) (λ p. PassedAll g p.0 p.1.now)

-- something that is passed over, whatever it is
abbrev pub PassesOver : {A : Type 0} → Got A → Option (Bor (List ℕ)) → Type 0
PassesOver g r = MatchOption r (g ≡ nothing) (λ p. Behind g p.now)

-- whether rows are put in or taken out, and not columns
abbrev pub is_rows : Axis → Bool
is_rows axis.Columns = false
is_rows axis.Rows = true

-- what the two ends of an area stand for in a formula
abbrev pub area_between : Reference × Reference → Term
area_between p = area (ref_of p.0) (ref_of p.1)

-- a command that is read, by its parts or why it is refused
abbrev pub Partly : Got plain.Command → Result Command Refusal → List ℕ → Type 0
Partly g p bs = (c : plain.Command) × (g ≡ got c bs) × (parts c ≡ p)

abbrev pub Tells : Got plain.Command → Option (Result Command Refusal × Bor (List ℕ)) → Type 0
Tells g r = MatchOption r (g ≡ nothing) (λ p. Partly g p.0 p.1.now)

abbrev pub told_of : Option plain.Command → Result Command Refusal
told_of None = Err Malformed
told_of (Some c) = parts c

-- what is of the core is told by its parts; what is well formed and not of the core is refused, and so is what is not well formed
unfoldable pub told : List ℕ → Result Command Refusal
told text = told_of (read_command text)

-- of bytes that are a command of the core, the command and its parts; of those that are refused, why
unfoldable pub ToldAs : List ℕ → Result Command Refusal → Type 0
ToldAs text (Ok p) = (c : plain.Command) × Said text c × (core c ≡ true) × (parts c ≡ Ok p)
ToldAs text (Err Malformed) = (c : plain.Command) → Said text c → Never
ToldAs text (Err Unknown) = (c : plain.Command) × Said text c × (core c ≡ false)

-- What is told of any bytes is so; and the formula of a cell that is set stands behind the first ten of them.
unfoldable pub ToldRight : Type 0
ToldRight = ((text : List ℕ) → ToldAs text (told text))
    × ((text : List ℕ) (c r : ℕ) (t : Term) → Said text (plain.set_cell c r t) → drop 10 text ≡ term_spelled t)
