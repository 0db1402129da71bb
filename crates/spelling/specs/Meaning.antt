-- Which plain value a value of the code stands for: places, boxes, references and constants. Assumes nothing: these are definitions.
use Rattle.std.specs.Prelude.{◌≡◌, ℕ, Bool, ◌&&◌, ◌==◌, List, Option, MatchOption, nat_le}
use Rattle.std.specs.Borrow.{Bor}
use Rattle.plain.specs.Term as term
use Rattle.plain.specs.Term.{or, Box, Ref}
use Rattle.plain.specs.Sheet as sheet
use Rattle.plain.specs.Read.{Got, got, nothing}
use Rattle.numbers.specs.Meaning.{num_of}
use Rattle.spelling.specs.declared.place.Place.{Place}
use Rattle.spelling.specs.declared.place.Area.{Area}
use Rattle.spelling.specs.declared.place.Reference.{Reference}
use Rattle.spelling.specs.declared.constant.Constant.{Constant}
use Rattle.spelling.specs.declared.constant.Constant.TheVariants.{Number, Text, Truth}

abbrev pub place_of : Place → sheet.Place
place_of p = record { col = p.col; row = p.row }

abbrev pub box_of : Area → Box
box_of a = record { left = a.first.col; top = a.first.row; right = a.last.col; bottom = a.last.row }

abbrev pub ref_of : Reference → Ref
ref_of a = record { col = a.place.col; row = a.place.row; fix_col = a.fix_col; fix_row = a.fix_row }

abbrev pub value_of : Constant → term.Value
value_of (Number n) = term.num (num_of n)
value_of (Text b) = term.txt b.now
value_of (Truth b) = term.truth b

-- the code's reader tells what plain's does: what was read, by its meaning, and what is behind it; or nothing
abbrev pub Reads : {A V : Type 0} → (A → V) → Got V → Option (A × Bor (List ℕ)) → Type 0
Reads meaning g r = MatchOption r (g ≡ nothing) (λ p. g ≡ got (meaning p.0) p.1.now)

-- what a name is made of
abbrev pub name_byte : ℕ → Bool
name_byte c = or (nat_le 97 c && nat_le c 122) (or (nat_le 65 c && nat_le c 90) (or (nat_le 48 c && nat_le c 57) (c == 95)))
