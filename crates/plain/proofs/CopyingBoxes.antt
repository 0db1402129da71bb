-- Copying a box of cells, and then its copy further on. A sheet's cells stand at different places, and what is at a place is known by which cells the
-- sheet has: so both ways are compared by their cells. Assumes nothing.
use Rattle.std.proofs.Common.{◌≡◌, ℕ, ◌+◌, ◌-◌, ◌≤◌, Bool, true, false, not, ◌&&◌, leb, ◌⊎◌, List, [], ◌∷◌, sym, refl, ap, ◌∙◌, subst, ap₂, inl, inr, arith}
use Rattle.std.proofs.lemmas.Bool.{both_ways, leb-true, and_parts, not-true}
use Rattle.plain.specs.Term.{pick, every, each, those, none_of, Term, Box, in_box}
use Rattle.plain.specs.Sheet.{Cell, Sheet, is_at, at, before, put_cell, Place, place_of}
use Rattle.plain.specs.Commands.{on_sheet, copied, copy, put_cells, target, copied_cell, turn, with_cells, no, yes}
use Rattle.plain.specs.Promise.{good_cells}
use Rattle.plain.specs.Laws.{In, box_stays, BoxCopiedOn}
use Rattle.plain.proofs.Members.{pick_yes, pick_both, in_each, each_in, in_those, those_in, every_in, eq_same}
use Rattle.plain.proofs.WorthLocal.{box_has}
use Rattle.plain.proofs.FixedPoint.{at_cases, at_place}
use Rattle.plain.proofs.Changes.{at_some}
use Rattle.plain.proofs.Copying.{copy_on}

-- cells at different places
abbrev Apart : Cell → Cell → Type 0
Apart x y = place_of x ≡ place_of y → ⊥

abbrev pub Different : List Cell → Type 0
Different [] = Unit {0}
Different (x ∷ xs) = ((y : Cell) → In y xs → Apart x y) × Different xs

pub good_different : (xs : List Cell) → good_cells xs ≡ true → Different xs
unfolding good_cells
good_different [] h = tt
good_different (x ∷ xs) h = (here, good_different xs l.1)
  where
    l : (none_of (at xs x.col x.row) ≡ true) × (good_cells xs ≡ true)
    l = and_parts (none_of (at xs x.col x.row)) (good_cells xs) h

    nothing : (ys : List Cell) → none_of ys ≡ true → ys ≡ []
    nothing [] e = refl
    nothing (y ∷ ys) e = absurd (both_ways false refl e)

    here : (y : Cell) → In y xs → Apart x y
    here y m e = at_some xs x.col x.row y m (eq_same (place_of y) (place_of x) (sym e)) (nothing (at xs x.col x.row) l.0)

-- what is at a place of different cells: the one of them that is there
at_one : (xs : List Cell) → Different xs → (q : Place) (x : Cell) → In x xs → place_of x ≡ q → at xs q.col q.row ≡ x ∷ []
unfolding at
at_one [] d q x m e = absurd m
at_one (y ∷ xs) d q x (inl i) e = pick_yes (is_at q.col q.row y) (y ∷ []) (at xs q.col q.row) (eq_same (place_of y) q (ap place_of (sym i) ∙ e)) ∙ ap (λ z. z ∷ []) (sym i)
at_one (y ∷ xs) d q x (inr m) e = go (is_at q.col q.row y) (at_place q y) (at_one xs d.1 q x m e)
  where
    go : (b : Bool) → (b ≡ true → place_of y ≡ q) → at xs q.col q.row ≡ x ∷ [] → pick b (y ∷ []) (at xs q.col q.row) ≡ x ∷ []
    go true f r = absurd (d.0 x m (f refl ∙ sym e))
    go false f r = r

-- two lists of different cells that have the same ones at a place
at_same : (xs ys : List Cell) → Different ys → (q : Place) → ((z : Cell) → place_of z ≡ q → In z xs → In z ys) → ((z : Cell) → place_of z ≡ q → In z ys → In z xs) →
    at xs q.col q.row ≡ at ys q.col q.row
at_same xs ys d q f g = go (at_cases xs q.col q.row) (at_cases ys q.col q.row)
  where
    Case : List Cell → Type 0
    Case zs = (at zs q.col q.row ≡ []) ⊎ ((x : Cell) × (at zs q.col q.row ≡ x ∷ []) × In x zs × (is_at q.col q.row x ≡ true))

    go : Case xs → Case ys → at xs q.col q.row ≡ at ys q.col q.row
    go (inr a) c = a.1 ∙ sym (at_one ys d q a.0 (f a.0 (at_place q a.0 a.3) a.2) (at_place q a.0 a.3))
    go (inl a) (inl c) = a ∙ sym c
    go (inl a) (inr c) = absurd (at_some xs q.col q.row c.0 (g c.0 (at_place q c.0 c.3) c.2) c.3 a)

-- different cells stay so in a part, and where different places go to different places
those_different : (f : Cell → Bool) (xs : List Cell) → Different xs → Different (those f xs)
those_different f [] d = tt
those_different f (x ∷ xs) d =
    let r = those_different f xs d.1 in
    pick_both Different (f x) (λ _. ((λ y m. d.0 y (those_in f y xs m).0), r)) (λ _. r)

each_different : (F : Cell → Cell) (xs : List Cell) → ((x y : Cell) → In x xs → In y xs → place_of (F x) ≡ place_of (F y) → place_of x ≡ place_of y) → Different xs → Different (each F xs)
each_different F [] h d = tt
each_different F (x ∷ xs) h d = (
  (λ y m e. let a = each_in F y xs m in d.0 a.0 a.1 (h x a.0 (inl refl) (inr a.1) (e ∙ ap place_of a.2))),
  each_different F xs (λ y z m n. h y z (inr m) (inr n)) d.1,
)

-- putting a cell where none is: the cells there are, and they stay different
put_in : (y : Cell) (xs : List Cell) (z : Cell) → In z (put_cell y xs) → (z ≡ y) ⊎ In z xs
unfolding put_cell
put_in y [] z (inl e) = inl e
put_in y [] z (inr m) = absurd m
put_in y (x ∷ xs) z m = go (is_at y.col y.row x) (before y.col y.row x) (put_in y xs z) m
  where
    go : (a b : Bool) → (In z (put_cell y xs) → (z ≡ y) ⊎ In z xs) → In z (pick a (y ∷ xs) (pick b (y ∷ x ∷ xs) (x ∷ put_cell y xs))) → (z ≡ y) ⊎ In z (x ∷ xs)
    go true b r (inl e) = inl e
    go true b r (inr n) = inr (inr n)
    go false true r (inl e) = inl e
    go false true r (inr n) = inr n
    go false false r (inl e) = inr (inl e)
    go false false r (inr n) = elim (r n) [ inl e ↦ inl e | inr l ↦ inr (inr l) ]

put_has : (y : Cell) (xs : List Cell) (z : Cell) → ((x : Cell) → In x xs → Apart y x) → (z ≡ y) ⊎ In z xs → In z (put_cell y xs)
unfolding put_cell
put_has y [] z f (inl e) = inl e
put_has y [] z f (inr m) = absurd m
put_has y (x ∷ xs) z f m = go (is_at y.col y.row x) (before y.col y.row x) (at_place (place_of y) x) (put_has y xs z (λ w n. f w (inr n))) m
  where
    go : (a b : Bool) → (a ≡ true → place_of x ≡ place_of y) → ((z ≡ y) ⊎ In z xs → In z (put_cell y xs)) → (z ≡ y) ⊎ In z (x ∷ xs) → In z (pick a (y ∷ xs) (pick b (y ∷ x ∷ xs) (x ∷ put_cell y xs)))
    go true b e r n = absurd (f x (inl refl) (sym (e refl)))
    go false true e r (inl i) = inl i
    go false true e r (inr n) = inr n
    go false false e r (inl i) = inr (r (inl i))
    go false false e r (inr (inl i)) = inl i
    go false false e r (inr (inr n)) = inr (r (inr n))

put_different : (y : Cell) (xs : List Cell) → ((x : Cell) → In x xs → Apart y x) → Different xs → Different (put_cell y xs)
unfolding put_cell
put_different y [] f d = ((λ x m. absurd m), tt)
put_different y (x ∷ xs) f d = go (is_at y.col y.row x) (before y.col y.row x) (at_place (place_of y) x) (put_different y xs (λ w n. f w (inr n)) d.1)
  where
    behind : (z : Cell) → (z ≡ y) ⊎ In z xs → Apart x z
    behind z (inl e) p = f x (inl refl) (ap place_of (sym e) ∙ sym p)
    behind z (inr m) p = d.0 z m p

    go : (a b : Bool) → (a ≡ true → place_of x ≡ place_of y) → Different (put_cell y xs) → Different (pick a (y ∷ xs) (pick b (y ∷ x ∷ xs) (x ∷ put_cell y xs)))
    go true b e r = absurd (f x (inl refl) (sym (e refl)))
    go false true e r = (f, d)
    go false false e r = ((λ z m. behind z (put_in y xs z m)), r)

-- the same for several
abbrev AllApart : List Cell → List Cell → Type 0
AllApart xs ys = (x y : Cell) → In x xs → In y ys → Apart x y

apart_on : (x : Cell) (xs ys : List Cell) → Different (x ∷ xs) → AllApart (x ∷ xs) ys → AllApart xs (put_cell x ys)
apart_on x xs ys d a w z m n = go (put_in x ys z n)
  where
    go : (z ≡ x) ⊎ In z ys → Apart w z
    go (inl e) p = d.0 w m (ap place_of (sym e) ∙ sym p)
    go (inr l) p = a w z (inr m) l p

puts_in : (xs ys : List Cell) (z : Cell) → In z (put_cells xs ys) → In z xs ⊎ In z ys
unfolding put_cells
puts_in [] ys z m = inr m
puts_in (x ∷ xs) ys z m = go (puts_in xs (put_cell x ys) z m)
  where
    old : (z ≡ x) ⊎ In z ys → In z (x ∷ xs) ⊎ In z ys
    old (inl e) = inl (inl e)
    old (inr n) = inr n

    go : In z xs ⊎ In z (put_cell x ys) → In z (x ∷ xs) ⊎ In z ys
    go (inl n) = inl (inr n)
    go (inr n) = old (put_in x ys z n)

puts_has : (xs ys : List Cell) (z : Cell) → Different xs → AllApart xs ys → In z xs ⊎ In z ys → In z (put_cells xs ys)
unfolding put_cells
puts_has [] ys z d a (inl m) = absurd m
puts_has [] ys z d a (inr m) = m
puts_has (x ∷ xs) ys z d a m = puts_has xs (put_cell x ys) z d.1 (apart_on x xs ys d a) (go m)
  where
    new : (z ≡ x) ⊎ In z ys → In z (put_cell x ys)
    new = put_has x ys z (λ w n. a x w (inl refl) n)

    go : In z (x ∷ xs) ⊎ In z ys → In z xs ⊎ In z (put_cell x ys)
    go (inl (inl e)) = inr (new (inl e))
    go (inl (inr n)) = inl n
    go (inr n) = inr (new (inr n))

puts_different : (xs ys : List Cell) → Different xs → AllApart xs ys → Different ys → Different (put_cells xs ys)
unfolding put_cells
puts_different [] ys d a e = e
puts_different (x ∷ xs) ys d a e = puts_different xs (put_cell x ys) d.1 (apart_on x xs ys d a) (put_different x ys (λ w n. a x w (inl refl) n) e)

-- ONE COPY: the cells of a box where they go, and what is outside of there
abbrev has : Box → Cell → Bool
has a x = in_box a x.col x.row

module _ (b : Box) (c r : ℕ) where
  box_parts : (a : Box) (x : Cell) → has a x ≡ true → (a.left ≤ x.col) × (x.col ≤ a.right) × (a.top ≤ x.row) × (x.row ≤ a.bottom)
  box_parts a x h =
      let l = and_parts (leb a.left x.col && leb x.col a.right) (leb a.top x.row && leb x.row a.bottom) h in
      let m = and_parts (leb a.left x.col) (leb x.col a.right) l.0 in
      let n = and_parts (leb a.top x.row) (leb x.row a.bottom) l.1 in
      (leb-true a.left x.col m.0, leb-true x.col a.right m.1, leb-true a.top x.row n.0, leb-true x.row a.bottom n.1)

  copy_there : (x : Cell) → has b x ≡ true → has (target b c r) (copied_cell b c r x) ≡ true
  copy_there x h =
      let l = box_parts b x h in
      box_has (target b c r) (c + (x.col - b.left)) (r + (x.row - b.top)) (omega arith) (omega arith) (omega arith) (omega arith)

  copy_once : (x y : Cell) → has b x ≡ true → has b y ≡ true → place_of (copied_cell b c r x) ≡ place_of (copied_cell b c r y) → place_of x ≡ place_of y
  copy_once x y h k e =
      let l = box_parts b x h in
      let m = box_parts b y k in
      let e₁ : c + (x.col - b.left) ≡ c + (y.col - b.left) = ap (λ z. z.col) e in
      let e₂ : r + (x.row - b.top) ≡ r + (y.row - b.top) = ap (λ z. z.row) e in
      let p : x.col ≡ y.col = omega arith in
      let q : x.row ≡ y.row = omega arith in
      λ i. record { col = p i; row = q i }

  module _ (cells : List Cell) where
    abbrev moved : List Cell
    moved = each (copied_cell b c r) (those (has b) cells)

    abbrev outside : List Cell
    outside = those (λ x. not (has (target b c r) x)) cells

    abbrev after_copy : List Cell
    after_copy = put_cells moved outside

    moved_from : (z : Cell) → In z moved → (x : Cell) × In x cells × (has b x ≡ true) × (z ≡ copied_cell b c r x)
    moved_from z m =
        let a = each_in (copied_cell b c r) z (those (has b) cells) m in
        let l = those_in (has b) a.0 cells a.1 in
        (a.0, l.0, l.1, a.2)

    moved_to : (x : Cell) → In x cells → has b x ≡ true → In (copied_cell b c r x) moved
    moved_to x m h = in_each (copied_cell b c r) x (those (has b) cells) (in_those (has b) x cells m h)

    moved_in : (z : Cell) → In z moved → has (target b c r) z ≡ true
    moved_in z m = let a = moved_from z m in ap (has (target b c r)) a.3 ∙ copy_there a.0 a.2

    outside_not : (z : Cell) → In z outside → has (target b c r) z ≡ false
    outside_not z m = not-true (has (target b c r) z) (those_in (λ x. not (has (target b c r) x)) z cells m).1

    both_apart : AllApart moved outside
    both_apart x y m n e =
        both_ways (has (target b c r) y) (outside_not y n) (ap (λ (q : Place). in_box (target b c r) q.col q.row) (sym e) ∙ moved_in x m)

    moved_different : Different cells → Different moved
    moved_different d =
        each_different (copied_cell b c r) (those (has b) cells) (λ x y m n. copy_once x y (those_in (has b) x cells m).1 (those_in (has b) y cells n).1) (those_different (has b) cells d)

    after_different : Different cells → Different after_copy
    after_different d = puts_different moved outside (moved_different d) both_apart (those_different (λ x. not (has (target b c r) x)) cells d)

    -- in the place that is copied to there are the moved cells, and no others
    after_has : Different cells → (z : Cell) → In z moved → In z after_copy
    after_has d z m = puts_has moved outside z (moved_different d) both_apart (inl m)

    after_in : (z : Cell) → has (target b c r) z ≡ true → In z after_copy → In z moved
    after_in z h m = elim (puts_in moved outside z m) [ inl n ↦ n | inr n ↦ absurd (both_ways (has (target b c r) z) (outside_not z n) h) ]

-- TWO COPIES: a cell goes where one copy that far brings it, with the same formula
target_on : (b : Box) (c₁ r₁ c₂ r₂ : ℕ) → target (target b c₁ r₁) c₂ r₂ ≡ target b c₂ r₂
target_on b c₁ r₁ c₂ r₂ =
    let e₁ : c₂ + (c₁ + (b.right - b.left) - c₁) ≡ c₂ + (b.right - b.left) = omega arith in
    let e₂ : r₂ + (r₁ + (b.bottom - b.top) - r₁) ≡ r₂ + (b.bottom - b.top) = omega arith in
    λ i. record { left = c₂; top = r₂; right = e₁ i; bottom = e₂ i }

cell_eq : (F : ℕ → ℕ → Term) (t : Term) (c c₁ r r₁ : ℕ) → c ≡ c₁ → r ≡ r₁ → F c₁ r₁ ≡ t → ◌≡◌ {A = Cell} (record { col = c; row = r; term = F c r }) (record { col = c₁; row = r₁; term = t })
cell_eq F t c c₁ r r₁ e₁ e₂ h = ap₂ (λ x y. record { col = x; row = y; term = F x y }) e₁ e₂ ∙ ap (λ u. record { col = c₁; row = r₁; term = u }) h

cell_on : (b : Box) (c₁ r₁ c₂ r₂ : ℕ) (x : Cell) → box_stays b c₁ r₁ x ≡ true → copied_cell (target b c₁ r₁) c₂ r₂ (copied_cell b c₁ r₁ x) ≡ copied_cell b c₂ r₂ x
cell_on b c₁ r₁ c₂ r₂ x h =
    cell_eq (λ c r. copied (copied_cell b c₁ r₁ x).col (copied_cell b c₁ r₁ x).row c r (copied_cell b c₁ r₁ x).term) (copied_cell b c₂ r₂ x).term
    (c₂ + (c₁ + (x.col - b.left) - c₁)) (c₂ + (x.col - b.left)) (r₂ + (r₁ + (x.row - b.top) - r₁)) (r₂ + (x.row - b.top)) (omega arith) (omega arith)
    (copy_on x.col x.row (c₁ + (x.col - b.left)) (r₁ + (x.row - b.top)) (c₂ + (x.col - b.left)) (r₂ + (x.row - b.top)) x.term h)

module _ (cells : List Cell) (b : Box) (c₁ r₁ c₂ r₂ : ℕ) (d : Different cells) (fine : every (box_stays b c₁ r₁) (those (λ x. in_box b x.col x.row) cells) ≡ true) where
  abbrev b₁ : Box
  b₁ = target b c₁ r₁

  abbrev once : List Cell
  once = after_copy b c₁ r₁ cells

  abbrev twice : List Cell
  twice = after_copy b₁ c₂ r₂ once

  abbrev at_once : List Cell
  at_once = after_copy b c₂ r₂ cells

  on_cell : (x : Cell) → In x cells → has b x ≡ true → copied_cell b₁ c₂ r₂ (copied_cell b c₁ r₁ x) ≡ copied_cell b c₂ r₂ x
  on_cell x m h = cell_on b c₁ r₁ c₂ r₂ x (every_in (box_stays b c₁ r₁) x (those (λ y. in_box b y.col y.row) cells) fine (in_those (λ y. in_box b y.col y.row) x cells m h))

  there : (z : Cell) (q : Place) → place_of z ≡ q → in_box (target b c₂ r₂) q.col q.row ≡ true → in_box (target b c₂ r₂) z.col z.row ≡ true
  there z q e h = ap (λ (w : Place). in_box (target b c₂ r₂) w.col w.row) e ∙ h

  twice_once : (q : Place) → in_box (target b c₂ r₂) q.col q.row ≡ true → (z : Cell) → place_of z ≡ q → In z twice → In z at_once
  twice_once q h z e m =
      let z₂ = after_in b₁ c₂ r₂ once z (ap (λ (a : Box). in_box a z.col z.row) (target_on b c₁ r₁ c₂ r₂) ∙ there z q e h) m in
      let y = moved_from b₁ c₂ r₂ once z z₂ in
      let y₁ = after_in b c₁ r₁ cells y.0 y.2 y.1 in
      let x = moved_from b c₁ r₁ cells y.0 y₁ in
      let f = y.3 ∙ ap (copied_cell b₁ c₂ r₂) x.3 ∙ on_cell x.0 x.1 x.2 in
      subst (λ w. In w at_once) (sym f) (after_has b c₂ r₂ cells d (copied_cell b c₂ r₂ x.0) (moved_to b c₂ r₂ cells x.0 x.1 x.2))

  once_twice : (q : Place) → in_box (target b c₂ r₂) q.col q.row ≡ true → (z : Cell) → place_of z ≡ q → In z at_once → In z twice
  once_twice q h z e m =
      let x = moved_from b c₂ r₂ cells z (after_in b c₂ r₂ cells z (there z q e h) m) in
      let y : Cell = copied_cell b c₁ r₁ x.0 in
      let y₁ = moved_to b c₁ r₁ cells x.0 x.1 x.2 in
      let y₂ = moved_to b₁ c₂ r₂ once y (after_has b c₁ r₁ cells d y y₁) (moved_in b c₁ r₁ cells y y₁) in
      subst (λ w. In w twice) (on_cell x.0 x.1 x.2 ∙ sym x.3) (after_has b₁ c₂ r₂ once (after_different b c₁ r₁ cells d) (copied_cell b₁ c₂ r₂ y) y₂)

  pub copied_twice : (q : Place) → in_box (target b c₂ r₂) q.col q.row ≡ true → at twice q.col q.row ≡ at at_once q.col q.row
  copied_twice q h = at_same twice at_once (after_different b c₂ r₂ cells d) q (twice_once q h) (once_twice q h)

-- what a copy that stays on the sheet leaves
copy_cells : (s : Sheet) (b : Box) (c r : ℕ) → on_sheet (target b c r).right (target b c r).bottom ≡ true → (turn s (copy b c r)).next ≡ with_cells s (after_copy b c r s.cells)
unfolding turn
copy_cells s b c r h = ap (λ u. u.next) (pick_yes (on_sheet (target b c r).right (target b c r).bottom) (yes [] (with_cells s (after_copy b c r s.cells))) (no 6 s) h)

pub box_copied_on : BoxCopiedOn
unfolding BoxCopiedOn
box_copied_on s b c₁ r₁ c₂ r₂ good on₁ on₂ fine q h =
    ap (λ w. at w.cells q.col q.row) two_steps
    ∙ copied_twice s.cells b c₁ r₁ c₂ r₂ (good_different s.cells good) fine q h
    ∙ ap (λ w. at w.cells q.col q.row) (sym (copy_cells s b c₂ r₂ on₂))
  where
    two_steps : (turn (turn s (copy b c₁ r₁)).next (copy (target b c₁ r₁) c₂ r₂)).next ≡ with_cells s (after_copy (target b c₁ r₁) c₂ r₂ (after_copy b c₁ r₁ s.cells))
    two_steps =
        ap (λ w. (turn w (copy (target b c₁ r₁) c₂ r₂)).next) (copy_cells s b c₁ r₁ on₁)
        ∙ copy_cells (with_cells s (after_copy b c₁ r₁ s.cells)) (target b c₁ r₁) c₂ r₂ (ap (λ a. on_sheet a.right a.bottom) (target_on b c₁ r₁ c₂ r₂) ∙ on₂)
