-- Members of lists, of lists of places, and lists of places that are all different. Assumes nothing.
use Rattle.std.proofs.Common.{◌≡◌, ℕ, suc, ◌<◌, ◌≤◌, Bool, true, false, not, eqb, leb, ◌⊎◌, List, [], ◌∷◌, ◌++◌, length, sym, refl, ap, ◌∙◌, subst, inl, inr, arith}
use Rattle.std.proofs.lemmas.Bool.{leb-true, leb-false, le-leb, lt-leb, eqb-true, eqb-false, eq-eqb, ne_eqb, and_parts, and_from, both_ways}
use Rattle.plain.specs.Term.{pick, or, every, any, each, those, flat}
use Rattle.plain.specs.Sheet.{Place, same_place, is_in}
use Rattle.plain.specs.Laws.{In}

abbrev pub Within : {A : Type 0} → List A → List A → Type 0
Within {A} xs ys = (x : A) → In x xs → In x ys

-- a test, with what it came to
abbrev pub Told : Bool → Type 0
Told b = (b ≡ true) ⊎ (b ≡ false)

pub told : (b : Bool) → Told b
told true = inl refl
told false = inr refl

pub pick_yes : {A : Type 0} (b : Bool) (x y : A) → b ≡ true → pick b x y ≡ x
pick_yes b x y e = ap (λ (c : Bool). pick c x y) e

pub pick_no : {A : Type 0} (b : Bool) (x y : A) → b ≡ false → pick b x y ≡ y
pick_no b x y e = ap (λ (c : Bool). pick c x y) e

pub pick_both : {A : Type 0} (P : A → Type 0) (b : Bool) {x y : A} → (b ≡ true → P x) → (b ≡ false → P y) → P (pick b x y)
pick_both P true f g = f refl
pick_both P false f g = g refl

-- tests that say the same
pub leb_same : (a b c d : ℕ) → (a ≤ b → c ≤ d) → (c ≤ d → a ≤ b) → leb a b ≡ leb c d
leb_same a b c d f g = go (leb c d) refl
  where
    go : (t : Bool) → leb c d ≡ t → leb a b ≡ t
    go true e = le-leb a b (g (leb-true c d e))
    go false e = let h = leb-false c d e in let k : a ≤ b → ⊥ = λ l. (let m = f l in omega arith) in lt-leb a b (omega arith)

pub eqb_same : (a b c d : ℕ) → (a ≡ b → c ≡ d) → (c ≡ d → a ≡ b) → eqb a b ≡ eqb c d
eqb_same a b c d f g = go (eqb c d) refl
  where
    go : (t : Bool) → eqb c d ≡ t → eqb a b ≡ t
    go true e = eq-eqb a b (g (eqb-true c d e))
    go false e = ne_eqb a b (λ l. eqb-false c d e (f l))

pub pick_ap : {A B : Type 0} (f : A → B) (b : Bool) (x y : A) → pick b (f x) (f y) ≡ f (pick b x y)
pick_ap f true x y = refl
pick_ap f false x y = refl

-- members of joined lists, of a map, of a filter, of a flattened map
pub in_left : {A : Type 0} (x : A) (xs ys : List A) → In x xs → In x (xs ++ ys)
in_left x [] ys h = absurd h
in_left x (y ∷ xs) ys (inl e) = inl e
in_left x (y ∷ xs) ys (inr h) = inr (in_left x xs ys h)

pub in_right : {A : Type 0} (x : A) (xs ys : List A) → In x ys → In x (xs ++ ys)
in_right x [] ys h = h
in_right x (y ∷ xs) ys h = inr (in_right x xs ys h)

pub in_parts : {A : Type 0} (x : A) (xs ys : List A) → In x (xs ++ ys) → In x xs ⊎ In x ys
in_parts x [] ys h = inr h
in_parts x (y ∷ xs) ys (inl e) = inl (inl e)
in_parts x (y ∷ xs) ys (inr h) = elim (in_parts x xs ys h) [ inl a ↦ inl (inr a) | inr b ↦ inr b ]

pub in_each : {A B : Type 0} (f : A → B) (x : A) (xs : List A) → In x xs → In (f x) (each f xs)
in_each f x [] h = h
in_each f x (y ∷ xs) (inl e) = inl (ap f e)
in_each f x (y ∷ xs) (inr h) = inr (in_each f x xs h)

pub each_in : {A B : Type 0} (f : A → B) (y : B) (xs : List A) → In y (each f xs) → (x : A) × In x xs × (y ≡ f x)
each_in f y [] h = absurd h
each_in f y (x ∷ xs) (inl e) = (x, inl refl, e)
each_in f y (x ∷ xs) (inr h) = let r = each_in f y xs h in (r.0, inr r.1, r.2)

pub in_those : {A : Type 0} (f : A → Bool) (x : A) (xs : List A) → In x xs → f x ≡ true → In x (those f xs)
in_those f x [] h e = h
in_those f x (y ∷ xs) (inl p) e = pick_both (In x) (f y) (λ _. inl p) (λ n. absurd (both_ways (f y) n (ap f (sym p) ∙ e)))
in_those f x (y ∷ xs) (inr h) e = pick_both (In x) (f y) (λ _. inr (in_those f x xs h e)) (λ _. in_those f x xs h e)

pub those_in : {A : Type 0} (f : A → Bool) (x : A) (xs : List A) → In x (those f xs) → In x xs × (f x ≡ true)
those_in f x [] h = absurd h
those_in {A} f x (y ∷ xs) h = go (f y) refl (those_in f x xs) h
  where
    go : (b : Bool) → f y ≡ b → (In x (those f xs) → In x xs × (f x ≡ true)) → In x (pick b (y ∷ those f xs) (those f xs)) → In x (y ∷ xs) × (f x ≡ true)
    go true e r (inl p) = (inl p, ap f p ∙ e)
    go true e r (inr k) = (inr (r k).0, (r k).1)
    go false e r k = (inr (r k).0, (r k).1)

pub in_flat : {A B : Type 0} (f : A → List B) (x : A) (y : B) (xs : List A) → In x xs → In y (f x) → In y (flat f xs)
in_flat f x y [] h k = absurd h
in_flat f x y (z ∷ xs) (inl e) k = in_left y (f z) (flat f xs) (subst (λ w. In y (f w)) e k)
in_flat f x y (z ∷ xs) (inr h) k = in_right y (f z) (flat f xs) (in_flat f x y xs h k)

pub flat_in : {A B : Type 0} (f : A → List B) (y : B) (xs : List A) → In y (flat f xs) → (x : A) × In x xs × In y (f x)
flat_in f y [] h = absurd h
flat_in {A} f y (z ∷ xs) h = go (flat_in f y xs) (in_parts y (f z) (flat f xs) h)
  where
    go : (In y (flat f xs) → (x : A) × In x xs × In y (f x)) → In y (f z) ⊎ In y (flat f xs) → (x : A) × In x (z ∷ xs) × In y (f x)
    go r (inl k) = (z, inl refl, k)
    go r (inr k) = ((r k).0, inr (r k).1, (r k).2)

pub none_in : {A : Type 0} (xs : List A) → length xs ≡ 0 → (x : A) → In x xs → ⊥
none_in [] e x h = h
none_in (y ∷ ys) e x h = omega arith

pub each_append : {A B : Type 0} (f : A → B) (xs ys : List A) → each f (xs ++ ys) ≡ each f xs ++ each f ys
each_append f [] ys = refl
each_append f (x ∷ xs) ys = ap (◌∷◌ (f x)) (each_append f xs ys)

-- tests on members
pub in_any : {A : Type 0} (f : A → Bool) (x : A) (xs : List A) → In x xs → f x ≡ true → any f xs ≡ true
in_any f x [] h e = absurd h
in_any f x (y ∷ xs) (inl p) e = ap (λ b. or b (any f xs)) (ap f (sym p) ∙ e)
in_any f x (y ∷ xs) (inr h) e = ap (or (f y)) (in_any f x xs h e) ∙ or_true (f y)
  where
    or_true : (b : Bool) → or b true ≡ true
    or_true true = refl
    or_true false = refl

pub any_in : {A : Type 0} (f : A → Bool) (xs : List A) → any f xs ≡ true → (x : A) × In x xs × (f x ≡ true)
any_in f [] e = absurd (both_ways false refl e)
any_in {A} f (y ∷ xs) e = go (f y) refl (any_in f xs) e
  where
    go : (b : Bool) → f y ≡ b → (any f xs ≡ true → (x : A) × In x xs × (f x ≡ true)) → or b (any f xs) ≡ true → (x : A) × In x (y ∷ xs) × (f x ≡ true)
    go true p r k = (y, inl refl, p)
    go false p r k = ((r k).0, inr (r k).1, (r k).2)

pub every_in : {A : Type 0} (t : A → Bool) (x : A) (xs : List A) → every t xs ≡ true → In x xs → t x ≡ true
every_in t x [] h i = absurd i
every_in t x (y ∷ xs) h (inl e) = ap t e ∙ (and_parts (t y) (every t xs) h).0
every_in t x (y ∷ xs) h (inr i) = every_in t x xs (and_parts (t y) (every t xs) h).1 i

-- places
pub same_eq : (p q : Place) → same_place p q ≡ true → p ≡ q
same_eq p q e =
    let h = and_parts (eqb p.col q.col) (eqb p.row q.row) e in
    let c = eqb-true p.col q.col h.0 in
    let r = eqb-true p.row q.row h.1 in
    λ i. record { col = c i; row = r i }

pub eq_same : (p q : Place) → p ≡ q → same_place p q ≡ true
eq_same p q e = and_from (eqb p.col q.col) (eqb p.row q.row) (eq-eqb p.col q.col (ap (λ x. x.col) e)) (eq-eqb p.row q.row (ap (λ x. x.row) e))

pub is_in_true : (p : Place) (ps : List Place) → is_in p ps ≡ true → In p ps
is_in_true p ps e = let r = any_in (same_place p) ps e in subst (λ x. In x ps) (sym (same_eq p r.0 r.2)) r.1

pub in_is_in : (p : Place) (ps : List Place) → In p ps → is_in p ps ≡ true
in_is_in p ps h = in_any (same_place p) p ps h (eq_same p p refl)

pub is_in_false : (p : Place) (ps : List Place) → is_in p ps ≡ false → In p ps → ⊥
is_in_false p ps e h = both_ways (is_in p ps) e (in_is_in p ps h)

pub not_is_in : (p : Place) (ps : List Place) → (In p ps → ⊥) → is_in p ps ≡ false
not_is_in p ps h = elim (told (is_in p ps)) [ inl e ↦ absurd (h (is_in_true p ps e)) | inr e ↦ e ]

-- lists of places that are all different: never longer than a list that has them all
abbrev pub Distinct : List Place → Type 0
Distinct [] = Unit {0}
Distinct (p ∷ ps) = (In p ps → ⊥) × Distinct ps

abbrev pub without : Place → List Place → List Place
without p ps = those (λ q. not (same_place p q)) ps

pub in_without : (p q : Place) (ps : List Place) → In q ps → (p ≡ q → ⊥) → In q (without p ps)
in_without p q ps h n = in_those (λ x. not (same_place p x)) q ps h (go (same_place p q) (same_eq p q))
  where
    go : (b : Bool) → (b ≡ true → p ≡ q) → not b ≡ true
    go true f = absurd (n (f refl))
    go false f = refl

pub those_short : {A : Type 0} (f : A → Bool) (xs : List A) → length (those f xs) ≤ length xs
those_short f [] = omega arith
those_short f (x ∷ xs) = let r = those_short f xs in pick_both (λ ys. length ys ≤ suc (length xs)) (f x) (λ _. omega arith) (λ _. omega arith)

pub without_short : (p : Place) (ps : List Place) → In p ps → length (without p ps) < length ps
without_short p [] h = absurd h
without_short p (q ∷ ps) (inl e) = go (same_place p q) (eq_same p q e)
  where
    go : (b : Bool) → b ≡ true → length (pick (not b) (q ∷ without p ps) (without p ps)) < suc (length ps)
    go true t = let r = those_short (λ x. not (same_place p x)) ps in omega arith
    go false t = absurd (both_ways false refl t)
without_short p (q ∷ ps) (inr h) =
    let r = without_short p ps h in
    pick_both (λ ys. length ys < suc (length ps)) (not (same_place p q)) (λ _. omega arith) (λ _. omega arith)

pub pigeons : (ps cs : List Place) → Distinct ps → Within ps cs → length ps ≤ length cs
pigeons [] cs d w = omega arith
pigeons (p ∷ ps) cs d w =
    let r = pigeons ps (without p cs) d.1 (λ q h. in_without p q cs (w q (inr h)) (λ e. d.0 (subst (λ x. In x ps) (sym e) h))) in
    let k = without_short p cs (w p (inl refl)) in
    omega arith
