-- A sheet worked through, command by command, by the plain sheet's turn: what stands where, after which command. Columns and rows count from 0.
-- Assumes nothing: these are definitions, and one statement, of which a theorem function has a proof.
use Rattle.std.specs.Prelude.{◌≡◌, ℕ, true, false, List, [], ◌∷◌, ◌++◌, nat_eq}
use Rattle.plain.specs.Term.{every, each, plus, Value, empty, num, txt, wrong, Ref, const, cell, area, named, bin, call, no_terms, term_and, Box}
use Rattle.plain.specs.Sheet.{Sheet, Place, shown}
use Rattle.plain.specs.Commands.{Command, set_cell, name, insert, remove, copy, turn, weight}

-- the sheet after some commands; and what was replied to each
unfoldable pub after : Sheet → List Command → Sheet
after w [] = w
after w (c ∷ cs) = after (turn w c).next cs

unfoldable pub replies : Sheet → List Command → List ℕ
replies w [] = []
replies w (c ∷ cs) = (turn w c).reply ∷ replies (turn w c).next cs

-- short ways to write what stands in cells: a number of millionths, a text, a place, a fixed place, one place as a box
abbrev pub millionths : ℕ → Value
millionths n = num (plus n)

abbrev pub there : ℕ → ℕ → Ref
there c r = record { col = c; row = r; fix_col = false; fix_row = false }

abbrev pub fixed : ℕ → ℕ → Ref
fixed c r = record { col = c; row = r; fix_col = true; fix_row = true }

abbrev pub place : ℕ → ℕ → Place
place c r = record { col = c; row = r }

abbrev pub boxed : ℕ → ℕ → ℕ → ℕ → Box
boxed c r d q = record { left = c; top = r; right = d; bottom = q }

abbrev pub cod : List ℕ
cod = 99 ∷ 111 ∷ 100 ∷ []

abbrev pub ling : List ℕ
ling = 108 ∷ 105 ∷ 110 ∷ 103 ∷ []

abbrev pub eel : List ℕ
eel = 101 ∷ 101 ∷ 108 ∷ []

abbrev pub fish : List ℕ
fish = 102 ∷ 105 ∷ 115 ∷ 104 ∷ []

abbrev pub nothing_yet : Sheet
nothing_yet = record { cells = []; names = [] }

-- A1 to C2, the prices D1 and D2, their sum D3, the shares E1 and E2
unfoldable pub first : List Command
first =
    set_cell 0 0 (const (txt cod)) ∷ set_cell 1 0 (const (millionths 4250000)) ∷ set_cell 2 0 (const (millionths 9000000))
    ∷ set_cell 0 1 (const (txt ling)) ∷ set_cell 1 1 (const (millionths 2000000)) ∷ set_cell 2 1 (const (millionths 5500000))
    ∷ set_cell 3 0 (bin 2 (cell (there 1 0)) (cell (there 2 0))) ∷ copy (boxed 3 0 3 0) 3 1
    ∷ set_cell 3 2 (call 0 (term_and (area (there 3 0) (there 3 1)) no_terms))
    ∷ set_cell 4 0 (bin 3 (cell (there 3 0)) (cell (fixed 3 2))) ∷ copy (boxed 4 0 4 0) 4 1 ∷ []

-- a row before row 2, with its price and share; the name of A1 to A3; F1 looks up "ling"
unfoldable pub second : List Command
second =
    insert true 1 1 ∷ set_cell 0 1 (const (txt eel)) ∷ set_cell 1 1 (const (millionths 1000000)) ∷ set_cell 2 1 (const (millionths 20000000))
    ∷ copy (boxed 3 0 4 0) 3 1 ∷ name fish (area (there 0 0) (there 0 2))
    ∷ set_cell 5 0 (call 5 (term_and (const (txt ling)) (term_and (named fish) (term_and (area (there 3 0) (there 3 2)) no_terms)))) ∷ []

-- row 3 out; then a circle, B1 is D3 + 1; then B1 is 4.25 again, and column C out
unfoldable pub third : List Command
third = remove true 2 1 ∷ []

unfoldable pub fourth : List Command
fourth = set_cell 1 0 (bin 0 (cell (there 3 2)) (const (millionths 1000000))) ∷ []

unfoldable pub fifth : List Command
fifth = set_cell 1 0 (const (millionths 4250000)) ∷ remove false 2 1 ∷ []

-- the sheets after each of these
abbrev pub s₁ : Sheet
s₁ = after nothing_yet first

abbrev pub s₂ : Sheet
s₂ = after s₁ second

abbrev pub s₃ : Sheet
s₃ = after s₂ third

abbrev pub s₄ : Sheet
s₄ = after s₃ fourth

abbrev pub s₅ : Sheet
s₅ = after s₄ fifth

-- THE TABLE: what is shown at which places of a sheet
pub record Entry : Type 0 where
  pub at : Place
  pub is : Value

abbrev pub at_is : ℕ → ℕ → Value → Entry
at_is c r v = record { at = place c r; is = v }

abbrev pub Shows : Sheet → List Entry → Type 0
Shows s es = each (λ e. shown s e.at) es ≡ each (λ e. e.is) es

unfoldable pub WorkedRight : Type 0
WorkedRight =
    -- D and E, from row 1
    Shows s₁ (at_is 3 0 (millionths 38250000) ∷ at_is 4 0 (millionths 776649) ∷ at_is 3 1 (millionths 11000000) ∷ at_is 4 1 (millionths 223350)
    ∷ at_is 3 2 (millionths 49250000) ∷ at_is 4 2 empty ∷ [])
    -- F1
    × Shows s₂ (at_is 5 0 (millionths 11000000) ∷ [])
    -- D and E, from row 1; F1, not found
    × Shows s₃ (at_is 3 0 (millionths 38250000) ∷ at_is 4 0 (millionths 656652) ∷ at_is 3 1 (millionths 20000000) ∷ at_is 4 1 (millionths 343347)
    ∷ at_is 3 2 (millionths 58250000) ∷ at_is 5 0 (wrong 7) ∷ [])
    -- B1, D1, D3, E1 and E2 by the circle; D2
    × Shows s₄ (at_is 1 0 (wrong 5) ∷ at_is 3 0 (wrong 5) ∷ at_is 3 2 (wrong 5) ∷ at_is 4 0 (wrong 5) ∷ at_is 4 1 (wrong 5) ∷ at_is 3 1 (millionths 20000000) ∷ [])
    -- D, now C, has lost a place
    × Shows s₅ (at_is 2 0 (wrong 6) ∷ at_is 2 1 (wrong 6) ∷ at_is 2 2 (wrong 6) ∷ [])
    -- every command is done; and what there is to keep at the end
    × (every (λ n. nat_eq n 0) (replies nothing_yet (first ++ second ++ third ++ fourth ++ fifth)) ≡ true)
    × (weight s₅ ≡ 5461)
