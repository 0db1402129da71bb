-- Changing cells changes nothing of what does not refer to them, before or after; and so for setting one cell. Assumes nothing.
use Rattle.std.proofs.Common.{◌≡◌, ℕ, zero, suc, ◌+◌, Bool, true, false, ◌&&◌, eqb, ◌⊎◌, List, [], ◌∷◌, length, sym, refl, ap, ◌∙◌, subst, ap₂, inl, inr, add_comm}
use Rattle.std.proofs.lemmas.Bool.{both_ways, eqb-true, and_parts}
use Rattle.plain.specs.Term.{pick, none_of, wrong}
use Rattle.plain.specs.Sheet.{Cell, Name, Sheet, is_at, at, before, put_cell, boxes, Place, same_place, is_in, place_of, uses_of, reaches, in_circle, Look, cells_worth, worth_at, shown}
use Rattle.plain.specs.Commands.{turn}
use Rattle.plain.specs.Promise.{OthersSame}
use Rattle.plain.specs.Laws.{In, Reach, one, more, covers, Untouched, ChangesLocal}
use Rattle.plain.proofs.Members.{told, pick_yes, pick_no, each_in, same_eq, eq_same, in_is_in, is_in_false}
use Rattle.plain.proofs.Reaching.{places, reach_reaches, circle_reach}
use Rattle.plain.proofs.FixedPoint.{written_or, uses_from, uses_parts, unwritten_empty, cells_same, enough}

abbrev sheet_of : List Cell → List Name → Sheet
sheet_of xs ns = record { cells = xs; names = ns }

-- D says which places are changed; what is at other places is the same
abbrev pub Beside : (Place → Type 0) → List Cell → List Cell → Type 0
Beside D xs ys = (q : Place) → (D q → ⊥) → at xs q.col q.row ≡ at ys q.col q.row

-- a place that is not changed, and refers to none that is, at any depth
abbrev pub Clean : (Place → Type 0) → Sheet → Place → Type 0
Clean D s x = (D x → ⊥) × ((w : Place) → Reach s x w → D w → ⊥)

clean_on : (D : Place → Type 0) (s : Sheet) (x z : Place) → Clean D s x → In z (uses_of s x) → Clean D s z
clean_on D s x z c h = (c.1 z (one h), λ w r. c.1 w (more h r))

-- a written place has something at it
pub at_some : (xs : List Cell) (c r : ℕ) (y : Cell) → In y xs → is_at c r y ≡ true → at xs c r ≡ [] → ⊥
unfolding at
at_some [] c r y h t e = h
at_some (x ∷ xs) c r y (inl i) t e =
    both_ways false refl (ap none_of (sym (pick_yes (is_at c r x) (x ∷ []) (at xs c r) (ap (is_at c r) (sym i) ∙ t)) ∙ e))
at_some (x ∷ xs) c r y (inr h) t e = go (is_at c r x) (at_some xs c r y h t) e
  where
    go : (b : Bool) → (at xs c r ≡ [] → ⊥) → pick b (x ∷ []) (at xs c r) ≡ [] → ⊥
    go true f k = both_ways false refl (ap none_of k)
    go false f k = f k

pub at_written : (xs : List Cell) (ns : List Name) (q : Place) → at xs q.col q.row ≡ [] → In q (places (sheet_of xs ns)) → ⊥
at_written xs ns q e h =
    let a = each_in place_of q xs h in
    at_some xs q.col q.row a.0 a.1 (eq_same (place_of a.0) q (sym a.2)) e

written_over : (D : Place → Type 0) (xs ys : List Cell) (ns : List Name) → Beside D xs ys → (z : Place) → (D z → ⊥) → In z (places (sheet_of xs ns)) → In z (places (sheet_of ys ns))
written_over D xs ys ns same z n h = go (written_or (sheet_of ys ns) z)
  where
    go : (at ys z.col z.row ≡ []) ⊎ In z (places (sheet_of ys ns)) → In z (places (sheet_of ys ns))
    go (inl e) = absurd (at_written xs ns z (same z n ∙ e) h)
    go (inr k) = k

uses_over : (D : Place → Type 0) (xs ys : List Cell) (ns : List Name) → Beside D xs ys → (x z : Place) → (D x → ⊥) → (D z → ⊥) → In z (uses_of (sheet_of xs ns) x) → In z (uses_of (sheet_of ys ns) x)
uses_over D xs ys ns same x z nx nz h =
    let a = uses_parts (sheet_of xs ns) x z h in
    uses_from (sheet_of ys ns) x z a.0 (subst (In a.0) (same x nx) a.1) a.2 (written_over D xs ys ns same z nz a.3)

reach_over : (D : Place → Type 0) (xs ys : List Cell) (ns : List Name) → Beside D xs ys → {x z : Place} → Clean D (sheet_of xs ns) x → Reach (sheet_of xs ns) x z → Reach (sheet_of ys ns) x z
reach_over D xs ys ns same c (one {p = x} {q = z} h) = one (uses_over D xs ys ns same x z c.0 (c.1 z (one h)) h)
reach_over D xs ys ns same c (more {p = x} {q = z} h t) =
    more (uses_over D xs ys ns same x z c.0 (c.1 z (one h)) h) (reach_over D xs ys ns same (clean_on D (sheet_of xs ns) x z c h) t)

pub truths_same : (b c : Bool) → (b ≡ true → c ≡ true) → (c ≡ true → b ≡ true) → b ≡ c
truths_same true c f g = sym (f refl)
truths_same false true f g = g refl
truths_same false false f g = refl

circle_over : (D : Place → Type 0) (xs ys : List Cell) (ns : List Name) → Beside D xs ys → (x : Place) → Clean D (sheet_of xs ns) x → Clean D (sheet_of ys ns) x →
    in_circle (sheet_of xs ns) x ≡ in_circle (sheet_of ys ns) x
circle_over D xs ys ns same x c d =
    truths_same (in_circle (sheet_of xs ns) x) (in_circle (sheet_of ys ns) x)
    (λ e. (circle_reach (sheet_of ys ns) x).1 (reach_over D xs ys ns same c ((circle_reach (sheet_of xs ns) x).0 e)))
    (λ e. (circle_reach (sheet_of xs ns) x).1 (reach_over D ys xs ns (λ q n. sym (same q n)) d ((circle_reach (sheet_of ys ns) x).0 e)))

unwritten_both : (n : ℕ) (s s₁ : Sheet) (z : Place) → at s.cells z.col z.row ≡ [] → at s₁.cells z.col z.row ≡ [] → worth_at n s z ≡ worth_at n s₁ z
unfolding worth_at
unwritten_both zero s s₁ z e₁ e₂ = refl
unwritten_both (suc n) s s₁ z e₁ e₂ = unwritten_empty s z n e₁ ∙ sym (unwritten_empty s₁ z n e₂)

-- round by round the same
pub worth_over : (D : Place → Type 0) (xs ys : List Cell) (ns : List Name) → Beside D xs ys → (n : ℕ) (x : Place) → Clean D (sheet_of xs ns) x → Clean D (sheet_of ys ns) x →
    worth_at n (sheet_of xs ns) x ≡ worth_at n (sheet_of ys ns) x
unfolding worth_at
worth_over D xs ys ns same zero x c d = refl
worth_over D xs ys ns same (suc n) x c d =
    ap₂ (λ b v. pick b (wrong 5) v) (circle_over D xs ys ns same x c d)
    (cells_same f g ns (at xs x.col x.row) (λ y k z e. go y k z e (worth_over D xs ys ns same n z) (written_or (sheet_of xs ns) z) (written_or (sheet_of ys ns) z))
    ∙ ap (cells_worth g ns) (same x c.0))
  where
    f : Look
    f q = worth_at n (sheet_of xs ns) q

    g : Look
    g q = worth_at n (sheet_of ys ns) q

    back : Beside D ys xs
    back q k = sym (same q k)

    go : (y : Cell) → In y (at xs x.col x.row) → (z : Place) → covers (boxes ns y.term) z ≡ true →
        (Clean D (sheet_of xs ns) z → Clean D (sheet_of ys ns) z → f z ≡ g z) →
        (at xs z.col z.row ≡ []) ⊎ In z (places (sheet_of xs ns)) → (at ys z.col z.row ≡ []) ⊎ In z (places (sheet_of ys ns)) → f z ≡ g z
    go y k z e r (inl a) (inl b) = unwritten_both n (sheet_of xs ns) (sheet_of ys ns) z a b
    go y k z e r (inr a) b =
        let u = uses_from (sheet_of xs ns) x z y k e a in
        let v = uses_over D xs ys ns same x z c.0 (c.1 z (one u)) u in
        r (clean_on D (sheet_of xs ns) x z c u) (clean_on D (sheet_of ys ns) x z d v)
    go y k z e r (inl a) (inr b) =
        let v = uses_from (sheet_of ys ns) x z y (subst (In y) (same x c.0) k) e b in
        let u = uses_over D ys xs ns back x z d.0 (d.1 z (one v)) v in
        r (clean_on D (sheet_of xs ns) x z c u) (clean_on D (sheet_of ys ns) x z d v)

pub shown_over : (D : Place → Type 0) (xs ys : List Cell) (ns : List Name) → Beside D xs ys → (x : Place) → Clean D (sheet_of xs ns) x → Clean D (sheet_of ys ns) x →
    shown (sheet_of xs ns) x ≡ shown (sheet_of ys ns) x
shown_over D xs ys ns same x c d =
    sym (enough (sheet_of xs ns) x (length ys))
    ∙ worth_over D xs ys ns same (suc (length xs + length ys)) x c d
    ∙ ap (λ n. worth_at (suc n) (sheet_of ys ns) x) (add_comm (length xs) (length ys))
    ∙ enough (sheet_of ys ns) x (length xs)

-- a cell that is put changes nothing elsewhere
put_beside : (y : Cell) (xs : List Cell) (c r : ℕ) → is_at c r y ≡ false → at (put_cell y xs) c r ≡ at xs c r
unfolding at put_cell
put_beside y [] c r n = pick_no (is_at c r y) (y ∷ []) [] n
put_beside y (x ∷ xs) c r n = go (is_at y.col y.row x) (before y.col y.row x) (is_at_same) (put_beside y xs c r n)
  where
    is_at_same : is_at y.col y.row x ≡ true → is_at c r x ≡ false
    is_at_same e =
        let h = and_parts (eqb x.col y.col) (eqb x.row y.row) e in
        ap₂ (λ a b. eqb a c && eqb b r) (eqb-true x.col y.col h.0) (eqb-true x.row y.row h.1) ∙ n

    go : (a b : Bool) → (a ≡ true → is_at c r x ≡ false) → at (put_cell y xs) c r ≡ at xs c r →
        at (pick a (y ∷ xs) (pick b (y ∷ x ∷ xs) (x ∷ put_cell y xs))) c r ≡ at (x ∷ xs) c r
    go true b f e = pick_no (is_at c r y) (y ∷ []) (at xs c r) n ∙ sym (pick_no (is_at c r x) (x ∷ []) (at xs c r) (f refl))
    go false true f e = pick_no (is_at c r y) (y ∷ []) (at (x ∷ xs) c r) n
    go false false f e = ap (λ zs. pick (is_at c r x) (x ∷ []) zs) e

not_same : (p q : Place) → (p ≡ q → ⊥) → same_place p q ≡ false
not_same p q n = elim (told (same_place p q)) [ inl e ↦ absurd (n (same_eq p q e)) | inr e ↦ e ]

pub clean_from : (p : Place) (s : Sheet) (q : Place) → same_place p q ≡ false → is_in p (reaches s q) ≡ false → Clean (λ z. p ≡ z) s q
clean_from p s q n h = (
  (λ e. both_ways (same_place p q) n (eq_same p q e)),
  (λ w t e. is_in_false p (reaches s q) h (subst (λ x. In x (reaches s q)) (sym e) (reach_reaches t))),
)

-- OTHERS THE SAME
pub others_same : OthersSame
unfolding OthersSame turn
others_same s c r t q good n h h₁ =
    shown_over (λ z. p ≡ z) (put_cell y s.cells) s.cells s.names beside q (clean_from p (sheet_of (put_cell y s.cells) s.names) q n h₁) (clean_from p s q n h)
  where
    p : Place
    p = record { col = c; row = r }

    y : Cell
    y = record { col = c; row = r; term = t }

    beside : Beside (λ z. p ≡ z) (put_cell y s.cells) s.cells
    beside z k = put_beside y s.cells z.col z.row (not_same p z k)

-- CHANGES STAY LOCAL
untouched_clean : (changed : Place → Bool) (s : Sheet) (p : Place) → Untouched changed s p → Clean (λ q. changed q ≡ true) s p
untouched_clean changed s p u = (
  both_ways (changed p) u.0,
  (λ w r. both_ways (changed w) (u.1 w (in_is_in w (reaches s p) (reach_reaches r)))),
)

pub changes_local : ChangesLocal
unfolding ChangesLocal
changes_local changed xs ys ns same p u v =
    shown_over (λ q. changed q ≡ true) xs ys ns (λ q n. same q (unchanged q n)) p (untouched_clean changed (sheet_of xs ns) p u) (untouched_clean changed (sheet_of ys ns) p v)
  where
    unchanged : (q : Place) → (changed q ≡ true → ⊥) → changed q ≡ false
    unchanged q n = elim (told (changed q)) [ inl e ↦ absurd (n e) | inr e ↦ e ]
