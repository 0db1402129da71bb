-- As many rounds as there are cells are enough, and what is shown is a fixed point: what each cell is worth by what is shown of the others.
-- Assumes nothing.
use Rattle.std.proofs.Common.{◌≡◌, ℕ, zero, suc, ◌+◌, ◌<◌, ◌≤◌, Bool, true, false, eqb, ◌⊎◌, List, [], ◌∷◌, length, sym, refl, ap, ◌∙◌, subst, inl, inr, suc-add, add-one, arith}
use Rattle.std.proofs.lemmas.Bool.{eqb-true, and_parts}
use Rattle.plain.specs.Term.{pick, those, empty, wrong}
use Rattle.plain.specs.Sheet.{Cell, Name, Sheet, is_at, at, boxes, Place, place_of, refers, uses_at, uses_of, reaches, in_circle, Look, deep, cells_worth, worth_at, shown}
use Rattle.plain.specs.Promise.{RoundsEnough}
use Rattle.plain.specs.Laws.{In, Reach, one, more, covers, Agree, Fixed, ShownFixed}
use Rattle.plain.proofs.Members.{Within, Told, told, pick_yes, pick_no, in_each, each_in, in_those, those_in, in_flat, flat_in, is_in_false, pigeons}
use Rattle.plain.proofs.Reaching.{places, places_length, uses_written, reaches_distinct, reaches_written, reaches_reach, reach_reaches, circle_reach}
use Rattle.plain.proofs.WorthLocal.{worth_same}

-- what stands at a place: nothing, or a cell of the sheet that is there
pub at_cases : (xs : List Cell) (c r : ℕ) → (at xs c r ≡ []) ⊎ ((x : Cell) × (at xs c r ≡ x ∷ []) × In x xs × (is_at c r x ≡ true))
unfolding at
at_cases [] c r = inl refl
at_cases (x ∷ xs) c r = go (is_at c r x) refl (at_cases xs c r)
  where
    go : (b : Bool) → is_at c r x ≡ b → (at xs c r ≡ []) ⊎ ((y : Cell) × (at xs c r ≡ y ∷ []) × In y xs × (is_at c r y ≡ true)) →
        (pick b (x ∷ []) (at xs c r) ≡ []) ⊎ ((y : Cell) × (pick b (x ∷ []) (at xs c r) ≡ y ∷ []) × In y (x ∷ xs) × (is_at c r y ≡ true))
    go true e h = inr (x, refl, inl refl, e)
    go false e (inl h) = inl h
    go false e (inr h) = inr (h.0, h.1, inr h.2, h.3)

pub at_place : (p : Place) (x : Cell) → is_at p.col p.row x ≡ true → place_of x ≡ p
at_place p x e =
    let h = and_parts (eqb x.col p.col) (eqb x.row p.row) e in
    let c = eqb-true x.col p.col h.0 in
    let r = eqb-true x.row p.row h.1 in
    λ i. record { col = c i; row = r i }

-- a place is written, or nothing stands there
pub written_or : (s : Sheet) (p : Place) → (at s.cells p.col p.row ≡ []) ⊎ In p (places s)
written_or s p = go (at_cases s.cells p.col p.row)
  where
    go : (at s.cells p.col p.row ≡ []) ⊎ ((x : Cell) × (at s.cells p.col p.row ≡ x ∷ []) × In x s.cells × (is_at p.col p.row x ≡ true)) →
        (at s.cells p.col p.row ≡ []) ⊎ In p (places s)
    go (inl e) = inl e
    go (inr h) = inr (subst (λ q. In q (places s)) (at_place p h.0 h.3) (in_each place_of h.0 s.cells h.2))

-- what a place refers to: the written places that the boxes of its cell cover
pub uses_from : (s : Sheet) (p q : Place) (x : Cell) → In x (at s.cells p.col p.row) → covers (boxes s.names x.term) q ≡ true → In q (places s) → In q (uses_of s p)
uses_from s p q x h e w =
    let a = each_in place_of q s.cells w in
    let k = in_those (λ y. refers s x (place_of y)) a.0 s.cells a.1 (subst (λ z. covers (boxes s.names x.term) z ≡ true) a.2 e) in
    in_flat (uses_at s) x q (at s.cells p.col p.row) h
    (subst (λ z. In z (uses_at s x)) (sym a.2) (in_each place_of a.0 (those (λ y. refers s x (place_of y)) s.cells) k))

pub uses_parts : (s : Sheet) (p q : Place) → In q (uses_of s p) → (x : Cell) × In x (at s.cells p.col p.row) × (covers (boxes s.names x.term) q ≡ true) × In q (places s)
uses_parts s p q h =
    let a = flat_in (uses_at s) q (at s.cells p.col p.row) h in
    let b = each_in place_of q (those (λ y. refers s a.0 (place_of y)) s.cells) a.2 in
    let c = those_in (λ y. refers s a.0 (place_of y)) b.0 s.cells b.1 in
    (a.0, a.1, subst (λ z. covers (boxes s.names a.0.term) z ≡ true) (sym b.2) c.1, uses_written s p q h)

-- a place where nothing stands is in no circle, and worth nothing after any round
no_uses : (s : Sheet) (p q : Place) → at s.cells p.col p.row ≡ [] → Reach s p q → ⊥
no_uses s p q e t = go t
  where
    none : (z : Place) → In z (uses_of s p) → ⊥
    none z h = subst (In (uses_parts s p z h).0) e (uses_parts s p z h).1

    go : {z : Place} → Reach s p z → ⊥
    go (one {q = z} h) = none z h
    go (more {q = z} h k) = none z h

pub unwritten_circle : (s : Sheet) (p : Place) → at s.cells p.col p.row ≡ [] → in_circle s p ≡ false
unwritten_circle s p e = elim (told (in_circle s p)) [ inl t ↦ absurd (no_uses s p p e ((circle_reach s p).0 t)) | inr f ↦ f ]

pub unwritten_empty : (s : Sheet) (p : Place) (n : ℕ) → at s.cells p.col p.row ≡ [] → worth_at (suc n) s p ≡ empty
unfolding worth_at
unwritten_empty s p n e =
    pick_no (in_circle s p) (wrong 5) (cells_worth (λ q. worth_at n s q) s.names (at s.cells p.col p.row)) (unwritten_circle s p e)
    ∙ ap (cells_worth (λ q. worth_at n s q) s.names) e

-- in a circle: wrong, 5, in every round
pub circle_wrong : (s : Sheet) (p : Place) (n : ℕ) → in_circle s p ≡ true → worth_at n s p ≡ wrong 5
unfolding worth_at
circle_wrong s p zero e = refl
circle_wrong s p (suc n) e = pick_yes (in_circle s p) (wrong 5) (cells_worth (λ q. worth_at n s q) s.names (at s.cells p.col p.row)) e

-- what is referred to and in no circle itself reaches fewer places
pub reaches_less : (s : Sheet) (p q : Place) → In q (uses_of s p) → in_circle s q ≡ false → length (reaches s q) < length (reaches s p)
reaches_less s p q h e = pigeons (q ∷ reaches s q) (reaches s p) (is_in_false q (reaches s q) e, reaches_distinct s q) w
  where
    w : Within (q ∷ reaches s q) (reaches s p)
    w x (inl i) = subst (λ z. In z (reaches s p)) (sym i) (reach_reaches (one h))
    w x (inr k) = reach_reaches (more h (reaches_reach s q x k))

-- a written place in no circle reaches fewer places than there are cells
pub reaches_few : (s : Sheet) (p : Place) → In p (places s) → in_circle s p ≡ false → length (reaches s p) < length s.cells
reaches_few s p h e =
    let a = pigeons (p ∷ reaches s p) (places s) (is_in_false p (reaches s p) e, reaches_distinct s p) w in
    let b = places_length place_of s.cells in
    omega arith
  where
    w : Within (p ∷ reaches s p) (places s)
    w x (inl i) = subst (λ z. In z (places s)) (sym i) h
    w x (inr k) = reaches_written s p x k

pub cells_same : (f g : Look) (ns : List Name) (xs : List Cell) → ((x : Cell) → In x xs → Agree f g (boxes ns x.term)) → cells_worth f ns xs ≡ cells_worth g ns xs
cells_same f g ns [] h = refl
cells_same f g ns (x ∷ xs) h = worth_same deep f g ns x.term (h x (inl refl))

-- two looks that agree where nothing stands, in circles, and on what a place refers to, agree on all that its cell's boxes cover
pub looks_same : (f g : Look) (s : Sheet) (p : Place) →
    ((q : Place) → at s.cells q.col q.row ≡ [] → f q ≡ g q) → ((q : Place) → in_circle s q ≡ true → f q ≡ g q) →
    ((q : Place) → In q (uses_of s p) → in_circle s q ≡ false → f q ≡ g q) →
    cells_worth f s.names (at s.cells p.col p.row) ≡ cells_worth g s.names (at s.cells p.col p.row)
looks_same f g s p h₁ h₂ h₃ = cells_same f g s.names (at s.cells p.col p.row) (λ x k q e. go x k q e (written_or s q) (told (in_circle s q)))
  where
    go : (x : Cell) → In x (at s.cells p.col p.row) → (q : Place) → covers (boxes s.names x.term) q ≡ true →
        (at s.cells q.col q.row ≡ []) ⊎ In q (places s) → Told (in_circle s q) → f q ≡ g q
    go x k q e (inl n) t = h₁ q n
    go x k q e (inr w) (inl t) = h₂ q t
    go x k q e (inr w) (inr t) = h₃ q (uses_from s p q x k e w) t

-- one round more, where the rounds before agree
stable_step : (s : Sheet) (p : Place) (n m : ℕ) → ((q : Place) → In q (uses_of s p) → in_circle s q ≡ false → worth_at n s q ≡ worth_at m s q) → 0 < n → 0 < m →
    worth_at (suc n) s p ≡ worth_at (suc m) s p
unfolding worth_at
stable_step s p zero m h hn hm = absurd (omega arith)
stable_step s p (suc n) zero h hn hm = absurd (omega arith)
stable_step s p (suc n) (suc m) h hn hm =
    ap (λ v. pick (in_circle s p) (wrong 5) v)
    (looks_same (λ q. worth_at (suc n) s q) (λ q. worth_at (suc m) s q) s p (λ q e. unwritten_empty s q n e ∙ sym (unwritten_empty s q m e))
    (λ q e. circle_wrong s q (suc n) e ∙ sym (circle_wrong s q (suc m) e)) h)

pub stable : (s : Sheet) (k : ℕ) (p : Place) (n m : ℕ) → length (reaches s p) ≤ k → k < n → k < m → worth_at (suc n) s p ≡ worth_at (suc m) s p
stable s zero p n m h hn hm = stable_step s p n m (λ q u c. let r = reaches_less s p q u c in absurd (omega arith)) hn hm
stable s (suc k) p zero m h hn hm = absurd (omega arith)
stable s (suc k) p (suc n) zero h hn hm = absurd (omega arith)
stable s (suc k) p (suc n) (suc m) h hn hm =
    stable_step s p (suc n) (suc m) (λ q u c. let r = reaches_less s p q u c in stable s k q n m (omega arith) (omega arith) (omega arith)) (omega arith) (omega arith)

-- ROUNDS ENOUGH
pub enough : (s : Sheet) (p : Place) (n : ℕ) → worth_at (suc (length s.cells + n)) s p ≡ shown s p
enough s p n = go (told (in_circle s p)) (written_or s p)
  where
    go : Told (in_circle s p) → (at s.cells p.col p.row ≡ []) ⊎ In p (places s) → worth_at (suc (length s.cells + n)) s p ≡ shown s p
    go (inl e) w = circle_wrong s p (suc (length s.cells + n)) e ∙ sym (circle_wrong s p (suc (length s.cells)) e)
    go (inr e) (inl w) = unwritten_empty s p (length s.cells + n) w ∙ sym (unwritten_empty s p (length s.cells) w)
    go (inr e) (inr w) = let r = reaches_few s p w e in stable s (length (reaches s p)) p (length s.cells + n) (length s.cells) (omega arith) (omega arith) (omega arith)

pub rounds_enough : RoundsEnough
unfolding RoundsEnough
rounds_enough s p n good = ap (λ k. worth_at k s p) (suc-add (length s.cells) n) ∙ enough s p n

-- THE FIXED POINT: what is shown of a place, by what is shown of the others
pub shown_is : (s : Sheet) → Fixed s (shown s)
unfolding worth_at
shown_is s p = sym (enough s p 1) ∙ ap (λ n. worth_at (suc n) s p) (add-one (length s.cells))

-- and there is no other: any look for which that holds gives what is shown
fixed_empty : (s : Sheet) (f : Look) → Fixed s f → (q : Place) → at s.cells q.col q.row ≡ [] → f q ≡ empty
fixed_empty s f h q e =
    h q ∙ pick_no (in_circle s q) (wrong 5) (cells_worth f s.names (at s.cells q.col q.row)) (unwritten_circle s q e) ∙ ap (cells_worth f s.names) e

fixed_wrong : (s : Sheet) (f : Look) → Fixed s f → (q : Place) → in_circle s q ≡ true → f q ≡ wrong 5
fixed_wrong s f h q e = h q ∙ pick_yes (in_circle s q) (wrong 5) (cells_worth f s.names (at s.cells q.col q.row)) e

fixed_step : (s : Sheet) (f g : Look) → Fixed s f → Fixed s g → (p : Place) → ((q : Place) → In q (uses_of s p) → in_circle s q ≡ false → f q ≡ g q) → f p ≡ g p
fixed_step s f g hf hg p h =
    hf p ∙ ap (λ v. pick (in_circle s p) (wrong 5) v)
    (looks_same f g s p (λ q e. fixed_empty s f hf q e ∙ sym (fixed_empty s g hg q e)) (λ q e. fixed_wrong s f hf q e ∙ sym (fixed_wrong s g hg q e)) h)
    ∙ sym (hg p)

fixed_same : (s : Sheet) (f g : Look) → Fixed s f → Fixed s g → (k : ℕ) (p : Place) → length (reaches s p) ≤ k → f p ≡ g p
fixed_same s f g hf hg zero p h = fixed_step s f g hf hg p (λ q u c. let r = reaches_less s p q u c in absurd (omega arith))
fixed_same s f g hf hg (suc k) p h = fixed_step s f g hf hg p (λ q u c. let r = reaches_less s p q u c in fixed_same s f g hf hg k q (omega arith))

pub fixed_shown : (s : Sheet) (f : Look) → Fixed s f → (p : Place) → f p ≡ shown s p
fixed_shown s f h p = fixed_same s f (shown s) h (shown_is s) (length (reaches s p)) p (omega arith)

pub shown_fixed : ShownFixed
unfolding ShownFixed
shown_fixed s = (shown_is s, fixed_shown s)
