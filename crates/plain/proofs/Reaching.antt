-- What `reaches` has: exactly the places that one comes to from a place by one or more references. Assumes nothing.
use Rattle.std.proofs.Common.{◌≡◌, ℕ, zero, suc, ◌+◌, ◌<◌, ◌≤◌, true, false, ◌⊎◌, ◌↔◌, List, [], ◌∷◌, ◌++◌, length, sym, refl, ap, ◌∙◌, subst, inl, inr, arith, length-append}
use Rattle.std.proofs.lemmas.Bool.{both_ways}
use Rattle.plain.specs.Term.{pick, each, those, flat, wrong}
use Rattle.plain.specs.Sheet.{Sheet, at, Place, is_in, place_of, refers, uses_at, with_new, uses_of, rounds, reaches, in_circle, worth_at}
use Rattle.plain.specs.Promise.{CirclesWrong}
use Rattle.plain.specs.Laws.{In, Reach, one, more, ReachesRight}
use Rattle.plain.proofs.Members.{Within, Told, told, pick_yes, pick_both, in_left, in_right, in_parts, in_each, each_in, those_in, in_flat, flat_in, is_in_true, in_is_in, is_in_false, Distinct, pigeons}

pub reach_on : {s : Sheet} {p q r : Place} → Reach s p q → In r (uses_of s q) → Reach s p r
reach_on (one h) k = more h (one k)
reach_on (more h t) k = more h (reach_on t k)

pub reach_trans : {s : Sheet} {p q r : Place} → Reach s p q → Reach s q r → Reach s p r
reach_trans (one h) t = more h t
reach_trans (more h u) t = more h (reach_trans u t)

-- the places of written cells
abbrev pub places : Sheet → List Place
places s = each place_of s.cells

pub places_length : {A B : Type 0} (f : A → B) (xs : List A) → length (each f xs) ≡ length xs
places_length f [] = refl
places_length f (x ∷ xs) = ap suc (places_length f xs)

pub uses_written : (s : Sheet) (p : Place) → Within (uses_of s p) (places s)
uses_written s p q h =
    let a = flat_in (uses_at s) q (at s.cells p.col p.row) h in
    let b = each_in place_of q (those (λ y. refers s a.0 (place_of y)) s.cells) a.2 in
    let c = those_in (λ y. refers s a.0 (place_of y)) b.0 s.cells b.1 in
    subst (λ x. In x (places s)) (sym b.2) (in_each place_of b.0 s.cells c.0)

-- one place more, unless it is there
abbrev pub one_new : Place → List Place → List Place
one_new q ps = pick (is_in q ps) ps (ps ++ q ∷ [])

pub one_new_keeps : (q : Place) (ps : List Place) → Within ps (one_new q ps)
one_new_keeps q ps x h = pick_both (In x) (is_in q ps) (λ _. h) (λ _. in_left x ps (q ∷ []) h)

pub one_new_adds : (q : Place) (ps : List Place) → In q (one_new q ps)
one_new_adds q ps = pick_both (In q) (is_in q ps) (λ e. is_in_true q ps e) (λ _. in_right q ps (q ∷ []) (inl refl))

pub one_new_only : (q : Place) (ps : List Place) (x : Place) → In x (one_new q ps) → In x ps ⊎ (x ≡ q)
one_new_only q ps x = pick_both (λ ys. In x ys → In x ps ⊎ (x ≡ q)) (is_in q ps) (λ _ h. inl h) (λ _ h. go (in_parts x ps (q ∷ []) h))
  where
    go : In x ps ⊎ In x (q ∷ []) → In x ps ⊎ (x ≡ q)
    go (inl a) = inl a
    go (inr (inl e)) = inr e
    go (inr (inr b)) = absurd b

distinct_snoc : (ps : List Place) (q : Place) → Distinct ps → (In q ps → ⊥) → Distinct (ps ++ q ∷ [])
distinct_snoc [] q d n = ((λ h. h), tt)
distinct_snoc (p ∷ ps) q d n = ((λ h. go (in_parts p ps (q ∷ []) h)), distinct_snoc ps q d.1 (λ h. n (inr h)))
  where
    go : In p ps ⊎ In p (q ∷ []) → ⊥
    go (inl a) = d.0 a
    go (inr (inl e)) = n (inl (sym e))
    go (inr (inr b)) = b

pub one_new_distinct : (q : Place) (ps : List Place) → Distinct ps → Distinct (one_new q ps)
one_new_distinct q ps d = pick_both Distinct (is_in q ps) (λ _. d) (λ e. distinct_snoc ps q d (is_in_false q ps e))

pub one_new_long : (q : Place) (ps : List Place) → length ps ≤ length (one_new q ps)
one_new_long q ps = pick_both (λ ys. length ps ≤ length ys) (is_in q ps) (λ _. omega arith) (λ _. omega (arith, length-append ps (q ∷ [])))

pub one_new_longer : (q : Place) (ps : List Place) → is_in q ps ≡ false → length ps < length (one_new q ps)
one_new_longer q ps e = pick_both (λ ys. length ps < length ys) (is_in q ps) (λ t. absurd (both_ways (is_in q ps) e t)) (λ _. omega (arith, length-append ps (q ∷ [])))

-- the same for several
pub with_new_keeps : (qs ps : List Place) → Within ps (with_new qs ps)
unfolding with_new
with_new_keeps [] ps x h = h
with_new_keeps (q ∷ qs) ps x h = with_new_keeps qs (one_new q ps) x (one_new_keeps q ps x h)

pub with_new_adds : (qs ps : List Place) → Within qs (with_new qs ps)
unfolding with_new
with_new_adds [] ps x h = absurd h
with_new_adds (q ∷ qs) ps x (inl e) = with_new_keeps qs (one_new q ps) x (subst (λ y. In y (one_new q ps)) (sym e) (one_new_adds q ps))
with_new_adds (q ∷ qs) ps x (inr h) = with_new_adds qs (one_new q ps) x h

pub with_new_only : (qs ps : List Place) (x : Place) → In x (with_new qs ps) → In x ps ⊎ In x qs
unfolding with_new
with_new_only [] ps x h = inl h
with_new_only (q ∷ qs) ps x h = go (with_new_only qs (one_new q ps) x h)
  where
    go_one : In x ps ⊎ (x ≡ q) → In x ps ⊎ In x (q ∷ qs)
    go_one (inl a) = inl a
    go_one (inr e) = inr (inl e)

    go : In x (one_new q ps) ⊎ In x qs → In x ps ⊎ In x (q ∷ qs)
    go (inl a) = go_one (one_new_only q ps x a)
    go (inr b) = inr (inr b)

pub with_new_distinct : (qs ps : List Place) → Distinct ps → Distinct (with_new qs ps)
unfolding with_new
with_new_distinct [] ps d = d
with_new_distinct (q ∷ qs) ps d = with_new_distinct qs (one_new q ps) (one_new_distinct q ps d)

pub with_new_long : (qs ps : List Place) → length ps ≤ length (with_new qs ps)
unfolding with_new
with_new_long [] ps = omega arith
with_new_long (q ∷ qs) ps =
    let a = one_new_long q ps in
    let b = with_new_long qs (one_new q ps) in
    omega arith

-- either all are there already, and nothing changes, or there are more
pub with_new_same : (qs ps : List Place) → Within qs ps → with_new qs ps ≡ ps
unfolding with_new
with_new_same [] ps w = refl
with_new_same (q ∷ qs) ps w =
    ap (with_new qs) (pick_yes (is_in q ps) ps (ps ++ q ∷ []) (in_is_in q ps (w q (inl refl)))) ∙ with_new_same qs ps (λ x h. w x (inr h))

pub with_new_or : (qs ps : List Place) → Within qs ps ⊎ (length ps < length (with_new qs ps))
unfolding with_new
with_new_or [] ps = inl (λ x h. absurd h)
with_new_or (q ∷ qs) ps = go (told (is_in q ps)) (with_new_or qs (one_new q ps))
  where
    go : Told (is_in q ps) → Within qs (one_new q ps) ⊎ (length (one_new q ps) < length (with_new qs (one_new q ps))) →
        Within (q ∷ qs) ps ⊎ (length ps < length (with_new qs (one_new q ps)))
    go (inr e) r = let a = one_new_longer q ps e in let b = with_new_long qs (one_new q ps) in inr (omega arith)
    go (inl e) (inr k) = let a = one_new_long q ps in inr (omega arith)
    go (inl e) (inl w) = inl h
      where
        h : Within (q ∷ qs) ps
        h x (inl p) = subst (λ y. In y ps) (sym p) (is_in_true q ps e)
        h x (inr k) = subst (In x) (pick_yes (is_in q ps) ps (ps ++ q ∷ []) e) (w x k)

-- a list of places that has all that its places refer to
abbrev pub Closed : Sheet → List Place → Type 0
Closed s ps = (p q : Place) → In p ps → In q (uses_of s p) → In q ps

closed_from : (s : Sheet) (ps : List Place) → Within (flat (uses_of s) ps) ps → Closed s ps
closed_from s ps w p q h k = w q (in_flat (uses_of s) p q ps h k)

closed_within : (s : Sheet) (ps : List Place) → Closed s ps → Within (flat (uses_of s) ps) ps
closed_within s ps c q h = let r = flat_in (uses_of s) q ps h in c r.0 q r.1 r.2

-- one round
abbrev pub round : Sheet → List Place → List Place
round s ps = with_new (flat (uses_of s) ps) ps

round_written : (s : Sheet) (ps : List Place) → Within ps (places s) → Within (round s ps) (places s)
round_written s ps w x h = go (with_new_only (flat (uses_of s) ps) ps x h)
  where
    go : In x ps ⊎ In x (flat (uses_of s) ps) → In x (places s)
    go (inl a) = w x a
    go (inr b) = let r = flat_in (uses_of s) x ps b in uses_written s r.0 x r.2

pub rounds_keeps : (s : Sheet) (n : ℕ) (ps : List Place) → Within ps (rounds s n ps)
unfolding rounds
rounds_keeps s zero ps x h = h
rounds_keeps s (suc n) ps x h = rounds_keeps s n (round s ps) x (with_new_keeps (flat (uses_of s) ps) ps x h)

pub rounds_distinct : (s : Sheet) (n : ℕ) (ps : List Place) → Distinct ps → Distinct (rounds s n ps)
unfolding rounds
rounds_distinct s zero ps d = d
rounds_distinct s (suc n) ps d = rounds_distinct s n (round s ps) (with_new_distinct (flat (uses_of s) ps) ps d)

pub rounds_written : (s : Sheet) (n : ℕ) (ps : List Place) → Within ps (places s) → Within (rounds s n ps) (places s)
unfolding rounds
rounds_written s zero ps w = w
rounds_written s (suc n) ps w = rounds_written s n (round s ps) (round_written s ps w)

pub rounds_same : (s : Sheet) (n : ℕ) (ps : List Place) → Closed s ps → rounds s n ps ≡ ps
unfolding rounds
rounds_same s zero ps c = refl
rounds_same s (suc n) ps c = ap (rounds s n) (with_new_same (flat (uses_of s) ps) ps (closed_within s ps c)) ∙ rounds_same s n ps c

-- enough rounds: each that is not the last brings a place, and there are no more than cells
pub rounds_closed : (s : Sheet) (n : ℕ) (ps : List Place) → Distinct ps → Within ps (places s) → length s.cells < n + length ps → Closed s (rounds s n ps)
unfolding rounds
rounds_closed s zero ps d w h =
    let a = pigeons ps (places s) d w in
    let b = places_length place_of s.cells in
    absurd (omega arith)
rounds_closed s (suc n) ps d w h = go (rounds_closed s n (round s ps) (with_new_distinct (flat (uses_of s) ps) ps d) (round_written s ps w)) (with_new_or (flat (uses_of s) ps) ps)
  where
    go : (length s.cells < n + length (round s ps) → Closed s (rounds s n (round s ps))) →
        Within (flat (uses_of s) ps) ps ⊎ (length ps < length (round s ps)) → Closed s (rounds s n (round s ps))
    go r (inr k) = r (omega arith)
    go r (inl v) = subst (Closed s) (sym (rounds_same s (suc n) ps (closed_from s ps v))) (closed_from s ps v)

-- what a place reaches
abbrev pub start : Sheet → Place → List Place
start s p = with_new (uses_of s p) []

pub reaches_distinct : (s : Sheet) (p : Place) → Distinct (reaches s p)
reaches_distinct s p = rounds_distinct s (length s.cells) (start s p) (with_new_distinct (uses_of s p) [] tt)

start_written : (s : Sheet) (p : Place) → Within (start s p) (places s)
start_written s p x h = elim (with_new_only (uses_of s p) [] x h) [ inl a ↦ absurd a | inr b ↦ uses_written s p x b ]

pub reaches_written : (s : Sheet) (p : Place) → Within (reaches s p) (places s)
reaches_written s p = rounds_written s (length s.cells) (start s p) (start_written s p)

pub reaches_uses : (s : Sheet) (p : Place) → Within (uses_of s p) (reaches s p)
reaches_uses s p x h = rounds_keeps s (length s.cells) (start s p) x (with_new_adds (uses_of s p) [] x h)

pub reaches_closed : (s : Sheet) (p : Place) → Closed s (reaches s p)
reaches_closed s p = go (start s p) (with_new_distinct (uses_of s p) [] tt) (start_written s p)
  where
    go : (ps : List Place) → Distinct ps → Within ps (places s) → Closed s (rounds s (length s.cells) ps)
    go [] d w = subst (Closed s) (sym (rounds_same s (length s.cells) [] (λ p q h k. absurd h))) (λ p q h k. absurd h)
    go (p₁ ∷ ps) d w = rounds_closed s (length s.cells) (p₁ ∷ ps) d w (omega arith)

rounds_reach : (s : Sheet) (p : Place) (n : ℕ) (ps : List Place) → ((q : Place) → In q ps → Reach s p q) → (q : Place) → In q (rounds s n ps) → Reach s p q
unfolding rounds
rounds_reach s p zero ps f = f
rounds_reach s p (suc n) ps f = rounds_reach s p n (round s ps) (λ q h. go q (with_new_only (flat (uses_of s) ps) ps q h))
  where
    go : (q : Place) → In q ps ⊎ In q (flat (uses_of s) ps) → Reach s p q
    go q (inl a) = f q a
    go q (inr b) = let r = flat_in (uses_of s) q ps b in reach_on (f r.0 r.1) r.2

-- THE CHARACTERISATION, both halves
pub reaches_reach : (s : Sheet) (p q : Place) → In q (reaches s p) → Reach s p q
reaches_reach s p q = rounds_reach s p (length s.cells) (start s p) (λ x h. elim (with_new_only (uses_of s p) [] x h) [ inl a ↦ absurd a | inr b ↦ one b ]) q

closed_reach : {s : Sheet} {p q : Place} (ps : List Place) → Closed s ps → In p ps → Reach s p q → In q ps
closed_reach ps c h (one {p = p} {q = q} k) = c p q h k
closed_reach ps c h (more {p = p} {q = q} k t) = closed_reach ps c (c p q h k) t

pub reach_reaches : {s : Sheet} {p q : Place} → Reach s p q → In q (reaches s p)
reach_reaches {s} (one {p = p} {q = q} k) = reaches_uses s p q k
reach_reaches {s} (more {p = p} {q = q} k t) = closed_reach (reaches s p) (reaches_closed s p) (reaches_uses s p q k) t

pub in_reaches : ReachesRight
unfolding ReachesRight
in_reaches s p q = ((λ e. reaches_reach s p q (is_in_true q (reaches s p) e)), (λ t. in_is_in q (reaches s p) (reach_reaches t)))

-- circles
pub circle_reach : (s : Sheet) (p : Place) → (in_circle s p ≡ true) ↔ Reach s p p
unfolding ReachesRight
circle_reach s p = in_reaches s p p

pub circles_wrong : CirclesWrong
unfolding CirclesWrong worth_at
circles_wrong s p e = pick_yes (in_circle s p) (wrong 5) _ e
