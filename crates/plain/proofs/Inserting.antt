-- Rows or columns put in: where coordinates, places and formulas go that stay on the sheet; and that taking them out again brings all back.
-- Assumes nothing.
use Rattle.std.proofs.Common.{◌≡◌, ℕ, ◌+◌, ◌-◌, ◌<◌, ◌≤◌, Bool, true, false, not, ◌&&◌, ltb, leb, ◌⊎◌, List, [], ◌∷◌, refl, ap, ◌∙◌, ap₂, inl, inr, arith}
use Rattle.std.proofs.lemmas.Bool.{ltb-true, ltb-false, leb-true, lt-ltb, le-ltb, le-leb, lt-leb, and_parts, and_left, and_right, not_from_false}
use Rattle.plain.specs.Term.{pick, every, each, those, Ref, Term, Terms, const, cell, area, named, gone, opposite, bin, call, no_terms, term_and, smaller}
use Rattle.plain.specs.Sheet.{Cell, Name}
use Rattle.plain.specs.Commands.{mapped, mapped_all, coord, put_along, last, moved_on, insert_ref, insert_area, inside, moved_back, remove_ref, low_end, high_end, remove_area, cell_along, moved_cell}
use Rattle.plain.specs.Promise.{far, near_end, near_ends, InAndOut}
use Rattle.plain.proofs.Members.{pick_yes, pick_no}

-- where a coordinate goes: omega takes the two cases apart
pub moved_is : (p k n : ℕ) → ((n < p) × (moved_on p k n ≡ n)) ⊎ ((p ≤ n) × (moved_on p k n ≡ n + k))
moved_is p k n = go (ltb n p) refl
  where
    go : (b : Bool) → ltb n p ≡ b → ((n < p) × (pick b n (n + k) ≡ n)) ⊎ ((p ≤ n) × (pick b n (n + k) ≡ n + k))
    go true e = inl (ltb-true n p e, refl)
    go false e = inr (ltb-false n p e, refl)

-- it never comes down on what was put in, and goes back to where it was
pub not_inside : (p k n : ℕ) → inside p k (moved_on p k n) ≡ false
not_inside p k n = go (moved_is p k n)
  where
    go : ((n < p) × (moved_on p k n ≡ n)) ⊎ ((p ≤ n) × (moved_on p k n ≡ n + k)) → inside p k (moved_on p k n) ≡ false
    go (inl h) = and_left (leb p (moved_on p k n)) (ltb (moved_on p k n) (p + k)) (lt-leb p (moved_on p k n) (omega arith))
    go (inr h) = and_right (leb p (moved_on p k n)) (ltb (moved_on p k n) (p + k)) (le-ltb (moved_on p k n) (p + k) (omega arith))

pub back_moved : (p k n : ℕ) → moved_back p k (moved_on p k n) ≡ n
back_moved p k n = go (moved_is p k n)
  where
    go : ((n < p) × (moved_on p k n ≡ n)) ⊎ ((p ≤ n) × (moved_on p k n ≡ n + k)) → moved_back p k (moved_on p k n) ≡ n
    go (inl h) = pick_yes (ltb (moved_on p k n) p) (moved_on p k n) (moved_on p k n - k) (lt-ltb (moved_on p k n) p (omega arith)) ∙ h.1
    go (inr h) = pick_no (ltb (moved_on p k n) p) (moved_on p k n) (moved_on p k n - k) (le-ltb (moved_on p k n) p (omega arith)) ∙ (omega arith)

-- places that stay on the sheet, in formulas
abbrev pub moved_ref : Bool → ℕ → ℕ → Ref → Ref
moved_ref v p k a = put_along v a (moved_on p k (coord v a))

far_on : (v : Bool) (p k : ℕ) (a : Ref) → far v k a ≡ true → moved_on p k (coord v a) ≤ last v
unfolding far
far_on v p k a h =
    let f = leb-true (coord v a + k) (last v) h in
    let m = moved_is p k (coord v a) in
    omega arith

pub insert_ref_is : (v : Bool) (p k : ℕ) (a : Ref) → far v k a ≡ true → insert_ref v p k a ≡ cell (moved_ref v p k a)
insert_ref_is v p k a h =
    pick_yes (leb (moved_on p k (coord v a)) (last v)) (cell (moved_ref v p k a)) gone (le-leb (moved_on p k (coord v a)) (last v) (far_on v p k a h))

smaller_low : (a b n : ℕ) → a ≤ n → b ≤ n → smaller a b ≤ n
smaller_low a b n h k = go (ltb a b)
  where
    go : (c : Bool) → pick c a b ≤ n
    go true = h
    go false = k

smaller_last : (n m : ℕ) → m ≤ n → smaller n m ≡ m
smaller_last n m h = pick_no (ltb n m) n m (le-ltb n m h)

pub insert_area_is : (v : Bool) (p k : ℕ) (a b : Ref) → far v k a ≡ true → far v k b ≡ true → insert_area v p k a b ≡ area (moved_ref v p k a) (moved_ref v p k b)
insert_area_is v p k a b h l =
    let m : ℕ = moved_on p k (coord v a) in
    let n : ℕ = moved_on p k (coord v b) in
    pick_yes (leb (smaller m n) (last v)) (area (put_along v a (smaller (last v) m)) (put_along v b (smaller (last v) n))) gone
    (le-leb (smaller m n) (last v) (smaller_low m n (last v) (far_on v p k a h) (far_on v p k b l)))
    ∙ ap₂ (λ x y. area (put_along v a x) (put_along v b y)) (smaller_last (last v) m (far_on v p k a h)) (smaller_last (last v) n (far_on v p k b l))

-- TAKEN OUT AGAIN: a place, an area, a formula, the cells and the names
ref_back : (v : Bool) (p k : ℕ) (a : Ref) → remove_ref v p k (moved_ref v p k a) ≡ cell a
ref_back true p k a = ap₂ (λ (b : Bool) m. pick b gone (cell (put_along true a m))) (not_inside p k a.row) (back_moved p k a.row)
ref_back false p k a = ap₂ (λ (b : Bool) m. pick b gone (cell (put_along false a m))) (not_inside p k a.col) (back_moved p k a.col)

pick_either : {A : Type 0} (b : Bool) (x : A) → pick b x x ≡ x
pick_either true x = refl
pick_either false x = refl

ends_back : (p k m n : ℕ) (f g : ℕ → Ref) →
    let x : ℕ = moved_on p k m in
    let y : ℕ = moved_on p k n in
    pick (inside p k x && inside p k y) gone (pick (leb x y) (area (f (low_end p k x)) (g (high_end p k y))) (area (f (high_end p k x)) (g (low_end p k y)))) ≡ area (f m) (g n)
ends_back p k m n f g = steps ∙ pick_either (leb (moved_on p k m) (moved_on p k n)) (area (f m) (g n))
  where
    both : Bool → Bool → ℕ → ℕ → Term
    both b c x y =
        pick (b && c) gone (pick (leb (moved_on p k m) (moved_on p k n)) (area (f (pick b p x)) (g (pick c (p - 1) y))) (area (f (pick b (p - 1) x)) (g (pick c p y))))

    steps : both (inside p k (moved_on p k m)) (inside p k (moved_on p k n)) (moved_back p k (moved_on p k m)) (moved_back p k (moved_on p k n)) ≡ both false false m n
    steps = λ i. both (not_inside p k m i) (not_inside p k n i) (back_moved p k m i) (back_moved p k n i)

area_back : (v : Bool) (p k : ℕ) (a b : Ref) → remove_area v p k (moved_ref v p k a) (moved_ref v p k b) ≡ area a b
area_back true p k a b = ends_back p k a.row b.row (put_along true a) (put_along true b)
area_back false p k a b = ends_back p k a.col b.col (put_along false a) (put_along false b)

pub along_moved : (v : Bool) (n : ℕ) (t : Term) (x : Cell) → cell_along v (moved_cell v n t x) ≡ n
along_moved true n t x = refl
along_moved false n t x = refl

cell_back : (v : Bool) (p k : ℕ) (t u : Term) (x : Cell) → u ≡ x.term →
    let y : Cell = moved_cell v (moved_on p k (cell_along v x)) t x in
    moved_cell v (moved_back p k (cell_along v y)) u y ≡ x
cell_back true p k t u x e = λ i. record { col = x.col; row = back_moved p k x.row i; term = e i }
cell_back false p k t u x e = λ i. record { col = back_moved p k x.col i; row = x.row; term = e i }

module _ (v : Bool) (p k : ℕ) where
  abbrev pub put_in : Term → Term
  put_in t = mapped (insert_ref v p k) (insert_area v p k) t

  abbrev taken_out : Term → Term
  taken_out t = mapped (remove_ref v p k) (remove_area v p k) t

  mutual
    unfolding mapped mapped_all near_end near_ends

    term_back : (t : Term) → near_end v k t ≡ true → taken_out (put_in t) ≡ t
    term_back (const x) h = refl
    term_back (cell a) h = ap (mapped (remove_ref v p k) (remove_area v p k)) (insert_ref_is v p k a h) ∙ ref_back v p k a
    term_back (area a b) h =
        let l = and_parts (far v k a) (far v k b) h in
        ap (mapped (remove_ref v p k) (remove_area v p k)) (insert_area_is v p k a b l.0 l.1) ∙ area_back v p k a b
    term_back (named n) h = refl
    term_back gone h = refl
    term_back (opposite t) h = ap opposite (term_back t h)
    term_back (bin j a b) h = let l = and_parts (near_end v k a) (near_end v k b) h in ap₂ (bin j) (term_back a l.0) (term_back b l.1)
    term_back (call j ts) h = ap (call j) (terms_back ts h)

    terms_back : (ts : Terms) → near_ends v k ts ≡ true →
        mapped_all (remove_ref v p k) (remove_area v p k) (mapped_all (insert_ref v p k) (insert_area v p k) ts) ≡ ts
    terms_back no_terms h = refl
    terms_back (term_and t ts) h = let l = and_parts (near_end v k t) (near_ends v k ts) h in ap₂ term_and (term_back t l.0) (terms_back ts l.1)

  -- a cell goes where its coordinate does
  abbrev pub cell_in : Cell → Cell
  cell_in x = moved_cell v (moved_on p k (cell_along v x)) (put_in x.term) x

  abbrev cell_out : Cell → Cell
  cell_out x = moved_cell v (moved_back p k (cell_along v x)) (taken_out x.term) x

  abbrev pub name_in : Name → Name
  name_in x = record { name = x.name; stands_for = put_in x.stands_for }

  abbrev name_out : Name → Name
  name_out x = record { name = x.name; stands_for = taken_out x.stands_for }

  cells_back : (xs : List Cell) → every (λ x. near_end v k x.term) xs ≡ true → each cell_out (those (λ x. not (inside p k (cell_along v x))) (each cell_in xs)) ≡ xs
  cells_back [] h = refl
  cells_back (x ∷ xs) h =
      let l = and_parts (near_end v k x.term) (every (λ y. near_end v k y.term) xs) h in
      let rest : List Cell = those (λ y. not (inside p k (cell_along v y))) (each cell_in xs) in
      let kept : not (inside p k (cell_along v (cell_in x))) ≡ true =
      ap (λ n. not (inside p k n)) (along_moved v (moved_on p k (cell_along v x)) (put_in x.term) x) ∙ not_from_false (inside p k (moved_on p k (cell_along v x))) (not_inside p k (cell_along v x))
      in
      ap (λ (b : Bool). each cell_out (pick b (cell_in x ∷ rest) rest)) kept
      ∙ ap₂ ◌∷◌ (cell_back v p k (put_in x.term) (taken_out (put_in x.term)) x (term_back x.term l.0)) (cells_back xs l.1)

  names_back : (xs : List Name) → every (λ x. near_end v k x.stands_for) xs ≡ true → each name_out (each name_in xs) ≡ xs
  names_back [] h = refl
  names_back (x ∷ xs) h =
      let l = and_parts (near_end v k x.stands_for) (every (λ y. near_end v k y.stands_for) xs) h in
      ap₂ (λ t ys. record { name = x.name; stands_for = t } ∷ ys) (term_back x.stands_for l.0) (names_back xs l.1)

pub in_and_out : InAndOut
unfolding InAndOut
in_and_out s v p k _ h l = ap₂ (λ xs ns. record { cells = xs; names = ns }) (cells_back v p k s.cells h) (names_back v p k s.names l)
