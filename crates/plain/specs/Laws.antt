-- Laws of the plain sheet beyond the promises: `reaches` is the transitive closure of references, worth is local, what is shown is the one fixed
-- point, what a change leaves alone, and copies of copies. Each is a statement, a type of which a theorem function has a proof. Assumes nothing.
use Rattle.std.specs.Prelude.{◌≡◌, ℕ, ◌+◌, ◌-◌, Bool, true, false, not, ◌&&◌, ◌⊎◌, ◌↔◌, List, [], ◌∷◌}
use Rattle.plain.specs.Term.{pick, every, any, those, none_of, Ref, Term, Terms, const, cell, area, named, gone, opposite, bin, call, no_terms, term_and, wrong, Box, in_box}
use Rattle.plain.specs.Sheet.{Cell, Name, Sheet, at, boxes, Place, is_in, uses_of, reaches, in_circle, Look, worth, cells_worth, shown}
use Rattle.plain.specs.Commands.{on_sheet, copy_ref, copied, copy, target, turn}
use Rattle.plain.specs.Promise.{good_cells}

-- a member of a list
abbrev pub In : {A : Type 0} → A → List A → Type 0
In x [] = ⊥
In x (y ∷ ys) = (x ≡ y) ⊎ In x ys

-- one or more references, from the first place to the second
pub data Reach (s : Sheet) : Place → Place → Type 0 where
  one : {p q : Place} → In q (uses_of s p) → Reach s p q
  more : {p q r : Place} → In q (uses_of s p) → Reach s q r → Reach s p r

-- A place is among those that another reaches if and only if references lead there; it is in a circle if they lead back to it.
unfoldable pub ReachesRight : Type 0
ReachesRight = (s : Sheet) (p q : Place) → (is_in q (reaches s p) ≡ true) ↔ Reach s p q

-- the boxes cover a place; two looks agree on all that boxes cover
abbrev pub covers : List Box → Place → Bool
covers bs q = any (λ b. in_box b q.col q.row) bs

abbrev pub Agree : Look → Look → List Box → Type 0
Agree f g bs = (q : Place) → covers bs q ≡ true → f q ≡ g q

-- What a formula is worth depends only on what is in its boxes.
unfoldable pub WorthLocal : Type 0
WorthLocal = (n : ℕ) (f g : Look) (ns : List Name) (t : Term) → Agree f g (boxes ns t) → worth n f ns t ≡ worth n g ns t

-- a look that gives each place what its cell is worth by that look itself, and wrong, 5, in a circle
abbrev pub Fixed : Sheet → Look → Type 0
Fixed s f = (p : Place) → f p ≡ pick (in_circle s p) (wrong 5) (cells_worth f s.names (at s.cells p.col p.row))

-- What is shown is such a look, and the only one.
unfoldable pub ShownFixed : Type 0
ShownFixed = (s : Sheet) → Fixed s (shown s) × ((f : Look) → Fixed s f → (p : Place) → f p ≡ shown s p)

-- a place that is not among those changed, and refers, at any depth, to none that is
abbrev pub Untouched : (Place → Bool) → Sheet → Place → Type 0
Untouched changed s p = (changed p ≡ false) × ((q : Place) → is_in q (reaches s p) ≡ true → changed q ≡ false)

-- Changing what stands at any set of places changes nothing that refers to none of them, before or after: setting, wiping and copying are such changes.
unfoldable pub ChangesLocal : Type 0
ChangesLocal =
    (changed : Place → Bool) (xs ys : List Cell) (ns : List Name) →
    ((q : Place) → changed q ≡ false → at xs q.col q.row ≡ at ys q.col q.row) →
    let s : Sheet = record { cells = xs; names = ns } in
    let s₁ : Sheet = record { cells = ys; names = ns } in
    (p : Place) → Untouched changed s p → Untouched changed s₁ p → shown s p ≡ shown s₁ p

-- no place of a formula is gone when it is copied from c₀, r₀ to c, r; what was gone before may stand in it
abbrev pub ref_stays : ℕ → ℕ → ℕ → ℕ → Ref → Bool
ref_stays c₀ r₀ c r a = not (none_of (copy_ref c₀ r₀ c r a))

unfoldable mutual
  pub stays : ℕ → ℕ → ℕ → ℕ → Term → Bool
  stays c₀ r₀ c r (const v) = true
  stays c₀ r₀ c r (cell a) = ref_stays c₀ r₀ c r a
  stays c₀ r₀ c r (area a b) = ref_stays c₀ r₀ c r a && ref_stays c₀ r₀ c r b
  stays c₀ r₀ c r (named n) = true
  stays c₀ r₀ c r gone = true
  stays c₀ r₀ c r (opposite t) = stays c₀ r₀ c r t
  stays c₀ r₀ c r (bin k a b) = stays c₀ r₀ c r a && stays c₀ r₀ c r b
  stays c₀ r₀ c r (call k ts) = all_stay c₀ r₀ c r ts

  pub all_stay : ℕ → ℕ → ℕ → ℕ → Terms → Bool
  all_stay c₀ r₀ c r no_terms = true
  all_stay c₀ r₀ c r (term_and t ts) = stays c₀ r₀ c r t && all_stay c₀ r₀ c r ts

-- Copying a formula, and then its copy further on, gives what copying it that far at once does, if nothing is gone on the way.
unfoldable pub CopiedOn : Type 0
CopiedOn =
    (t : Term) (c₀ r₀ c₁ r₁ c₂ r₂ : ℕ) → stays c₀ r₀ c₁ r₁ t ≡ true →
    copied c₁ r₁ c₂ r₂ (copied c₀ r₀ c₁ r₁ t) ≡ copied c₀ r₀ c₂ r₂ t

-- Copying a box, and then its copy further on, leaves in the last place what copying it that far at once does, if nothing is gone on the way.
abbrev pub box_stays : Box → ℕ → ℕ → Cell → Bool
box_stays b c r x = stays x.col x.row (c + (x.col - b.left)) (r + (x.row - b.top)) x.term

unfoldable pub BoxCopiedOn : Type 0
BoxCopiedOn =
    (s : Sheet) (b : Box) (c₁ r₁ c₂ r₂ : ℕ) → good_cells s.cells ≡ true →
    on_sheet (target b c₁ r₁).right (target b c₁ r₁).bottom ≡ true → on_sheet (target b c₂ r₂).right (target b c₂ r₂).bottom ≡ true →
    every (box_stays b c₁ r₁) (those (λ x. in_box b x.col x.row) s.cells) ≡ true →
    let s₁ : Sheet = (turn s (copy b c₁ r₁)).next in
    let s₂ : Sheet = (turn s₁ (copy (target b c₁ r₁) c₂ r₂)).next in
    let s₃ : Sheet = (turn s (copy b c₂ r₂)).next in
    (q : Place) → in_box (target b c₂ r₂) q.col q.row ≡ true → at s₂.cells q.col q.row ≡ at s₃.cells q.col q.row
