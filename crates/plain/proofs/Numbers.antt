-- Numbers: adding in either order, grouped either way, and taking away again; the order of numbers, texts, truths and of all values.
-- A number is known by how far it is above zero and how far below: what is linear is then left to omega. Assumes nothing.
use Rattle.std.proofs.Common.{◌≡◌, ℕ, zero, suc, ◌+◌, ◌-◌, ◌/◌, ◌<◌, Bool, true, false, ◌&&◌, eqb, ltb, leb, ◌⊎◌, List, [], ◌∷◌, sym, refl, ap, ◌∙◌, ap₂, inl, inr, mul_comm, arith}
use Rattle.std.proofs.lemmas.Bool.{both_ways, ltb-true, ltb-false, leb-true, leb-false, lt-ltb, le-ltb, eq-eqb, ne_eqb, cases_order}
use Rattle.plain.specs.Term.{pick, or, earlier, million, Num, plus, minus, Value, empty, num, txt, truth, wrong, negative, apart, add, other, times, less_num, less_value, kind}
use Rattle.plain.specs.Promise.{NumbersRight, ValuesOrdered}

-- how far above zero, and how far below; one of the two is 0
abbrev pub up : Num → ℕ
up (plus n) = n
up (minus n) = 0

abbrev pub below : Num → ℕ
below (plus n) = 0
below (minus n) = suc n

-- two numbers with the same difference of the two are one
pub num_eq : (a b : Num) → up a + below b ≡ up b + below a → a ≡ b
num_eq (plus a) (plus b) e = let h : a ≡ b = omega arith in ap plus h
num_eq (plus a) (minus b) e = absurd (omega arith)
num_eq (minus a) (plus b) e = absurd (omega arith)
num_eq (minus a) (minus b) e = let h : a ≡ b = omega arith in ap minus h

-- the difference of a sum, of what lies apart, of the opposite
apart_is : (a b : ℕ) → up (apart a b) + b ≡ a + below (apart a b)
apart_is a b = go (leb b a) refl
  where
    go : (t : Bool) → leb b a ≡ t → up (pick t (plus (a - b)) (minus (b - a - 1))) + b ≡ a + below (pick t (plus (a - b)) (minus (b - a - 1)))
    go true e = let h = leb-true b a e in omega arith
    go false e = let h = leb-false b a e in omega arith

pub add_is : (a b : Num) → up (add a b) + (below a + below b) ≡ (up a + up b) + below (add a b)
unfolding add
add_is (plus a) (plus b) = omega arith
add_is (plus a) (minus b) = let h = apart_is a (suc b) in omega arith
add_is (minus a) (plus b) = let h = apart_is b (suc a) in omega arith
add_is (minus a) (minus b) = omega arith

pub other_is : (a : Num) → up (other a) + up a ≡ below (other a) + below a
unfolding other
other_is (plus zero) = refl
other_is (plus (suc n)) = omega arith
other_is (minus n) = omega arith

pub add_comm_num : (a b : Num) → add a b ≡ add b a
add_comm_num a b = let h = add_is a b in let k = add_is b a in num_eq (add a b) (add b a) (omega arith)

pub add_assoc_num : (a b c : Num) → add (add a b) c ≡ add a (add b c)
add_assoc_num a b c =
    let h₁ = add_is a b in
    let h₂ = add_is (add a b) c in
    let h₃ = add_is b c in
    let h₄ = add_is a (add b c) in
    num_eq (add (add a b) c) (add a (add b c)) (omega arith)

pub add_back : (a b : Num) → add (add a b) (other b) ≡ a
add_back a b =
    let h₁ = add_is a b in
    let h₂ = add_is (add a b) (other b) in
    let h₃ = other_is b in
    num_eq (add (add a b) (other b)) a (omega arith)

pub times_comm : (a b : Num) → times a b ≡ times b a
unfolding times
times_comm (plus a) (plus b) = ap (λ n. plus (n / million)) (mul_comm a b)
times_comm (plus a) (minus b) = ap (λ n. negative (n / million)) (mul_comm a (suc b))
times_comm (minus a) (plus b) = ap (λ n. negative (n / million)) (mul_comm (suc a) b)
times_comm (minus a) (minus b) = ap (λ n. plus (n / million)) (mul_comm (suc a) (suc b))

-- orders: neither before the other is the same, and never both
or_parts : (a b : Bool) → or a b ≡ false → (a ≡ false) × (b ≡ false)
or_parts true b e = absurd (both_ways true e refl)
or_parts false b e = (refl, e)

pub less_num_eq : (a b : Num) → or (less_num a b) (less_num b a) ≡ false → a ≡ b
unfolding less_num
less_num_eq (plus a) (plus b) e =
    let h = or_parts (ltb a b) (ltb b a) e in
    let h₁ = ltb-false a b h.0 in
    let h₂ = ltb-false b a h.1 in
    let k : a ≡ b = omega arith in
    ap plus k
less_num_eq (plus a) (minus b) e = absurd (both_ways true e refl)
less_num_eq (minus a) (plus b) e = absurd (both_ways true e refl)
less_num_eq (minus a) (minus b) e =
    let h = or_parts (ltb b a) (ltb a b) e in
    let h₁ = ltb-false b a h.0 in
    let h₂ = ltb-false a b h.1 in
    let k : a ≡ b = omega arith in
    ap minus k

pub less_num_once : (a b : Num) → less_num a b ≡ true → less_num b a ≡ false
unfolding less_num
less_num_once (plus a) (plus b) e = let h = ltb-true a b e in le-ltb b a (omega arith)
less_num_once (plus a) (minus b) e = absurd (both_ways false refl e)
less_num_once (minus a) (plus b) e = refl
less_num_once (minus a) (minus b) e = let h = ltb-true b a e in le-ltb a b (omega arith)

-- texts: what comes of the first bytes
earlier_less : (x y : ℕ) (xs ys : List ℕ) → x < y → earlier (x ∷ xs) (y ∷ ys) ≡ true
unfolding earlier
earlier_less x y xs ys h = ap (λ (b : Bool). pick b true (eqb x y && earlier xs ys)) (lt-ltb x y h)

earlier_more : (x y : ℕ) (xs ys : List ℕ) → y < x → earlier (x ∷ xs) (y ∷ ys) ≡ false
unfolding earlier
earlier_more x y xs ys h =
    ap₂ (λ (b c : Bool). pick b true (c && earlier xs ys)) (le-ltb x y (omega arith)) (ne_eqb x y (λ e. omega arith))

earlier_same : (x y : ℕ) (xs ys : List ℕ) → x ≡ y → earlier (x ∷ xs) (y ∷ ys) ≡ earlier xs ys
unfolding earlier
earlier_same x y xs ys h =
    ap₂ (λ (b c : Bool). pick b true (c && earlier xs ys)) (le-ltb x y (omega arith)) (eq-eqb x y h)

pub earlier_eq : (xs ys : List ℕ) → or (earlier xs ys) (earlier ys xs) ≡ false → xs ≡ ys
unfolding earlier
earlier_eq [] [] e = refl
earlier_eq [] (y ∷ ys) e = absurd (both_ways true e refl)
earlier_eq (x ∷ xs) [] e = absurd (both_ways true e refl)
earlier_eq (x ∷ xs) (y ∷ ys) e = go (earlier_eq xs ys) (or_parts (earlier (x ∷ xs) (y ∷ ys)) (earlier (y ∷ ys) (x ∷ xs)) e) (cases_order x y)
  where
    go : (or (earlier xs ys) (earlier ys xs) ≡ false → xs ≡ ys) → (earlier (x ∷ xs) (y ∷ ys) ≡ false) × (earlier (y ∷ ys) (x ∷ xs) ≡ false) →
        (x ≡ y) ⊎ ((x < y) ⊎ (y < x)) → x ∷ xs ≡ y ∷ ys
    go r h (inl i) =
        ap₂ ◌∷◌ i (r (ap₂ or (sym (earlier_same x y xs ys i) ∙ h.0) (sym (earlier_same y x ys xs (sym i)) ∙ h.1)))
    go r h (inr (inl l)) = absurd (both_ways (earlier (x ∷ xs) (y ∷ ys)) h.0 (earlier_less x y xs ys l))
    go r h (inr (inr l)) = absurd (both_ways (earlier (y ∷ ys) (x ∷ xs)) h.1 (earlier_less y x ys xs l))

pub earlier_once : (xs ys : List ℕ) → earlier xs ys ≡ true → earlier ys xs ≡ false
unfolding earlier
earlier_once [] [] e = refl
earlier_once [] (y ∷ ys) e = refl
earlier_once (x ∷ xs) [] e = absurd (both_ways false refl e)
earlier_once (x ∷ xs) (y ∷ ys) e = go (earlier_once xs ys) e (cases_order x y)
  where
    go : (earlier xs ys ≡ true → earlier ys xs ≡ false) → earlier (x ∷ xs) (y ∷ ys) ≡ true → (x ≡ y) ⊎ ((x < y) ⊎ (y < x)) → earlier (y ∷ ys) (x ∷ xs) ≡ false
    go r h (inl i) = earlier_same y x ys xs (sym i) ∙ r (sym (earlier_same x y xs ys i) ∙ h)
    go r h (inr (inl l)) = earlier_more y x ys xs l
    go r h (inr (inr l)) = absurd (both_ways (earlier (x ∷ xs) (y ∷ ys)) (earlier_more x y xs ys l) h)

-- all values
abbrev Ordered : Value → Value → Type 0
Ordered a b = (or (less_value a b) (less_value b a) ≡ false → a ≡ b) × (less_value a b ≡ true → less_value b a ≡ false)

lower : (a b : Value) → less_value a b ≡ true → less_value b a ≡ false → Ordered a b
lower a b h k = ((λ e. absurd (both_ways (less_value a b) (or_parts (less_value a b) (less_value b a) e).0 h)), λ _. k)

higher : (a b : Value) → less_value a b ≡ false → less_value b a ≡ true → Ordered a b
higher a b h k = ((λ e. absurd (both_ways (less_value b a) (or_parts (less_value a b) (less_value b a) e).1 k)), λ e. absurd (both_ways (less_value a b) h e))

truths_ordered : (a b : Bool) → Ordered (truth a) (truth b)
unfolding less_value
truths_ordered true true = ((λ e. refl), λ e. refl)
truths_ordered true false = higher (truth true) (truth false) refl refl
truths_ordered false true = lower (truth false) (truth true) refl refl
truths_ordered false false = ((λ e. refl), λ e. refl)

pub ordered : (a b : Value) → kind a < 4 → kind b < 4 → Ordered a b
unfolding less_value
ordered (wrong i) b h k = absurd (omega arith)
ordered empty (wrong j) h k = absurd (omega arith)
ordered (num m) (wrong j) h k = absurd (omega arith)
ordered (txt x) (wrong j) h k = absurd (omega arith)
ordered (truth t) (wrong j) h k = absurd (omega arith)
ordered empty empty h k = ((λ e. refl), λ e. refl)
ordered empty (num n) h k = lower empty (num n) refl refl
ordered empty (txt y) h k = lower empty (txt y) refl refl
ordered empty (truth u) h k = lower empty (truth u) refl refl
ordered (num m) empty h k = higher (num m) empty refl refl
ordered (num m) (num n) h k = ((λ e. ap num (less_num_eq m n e)), less_num_once m n)
ordered (num m) (txt y) h k = lower (num m) (txt y) refl refl
ordered (num m) (truth u) h k = lower (num m) (truth u) refl refl
ordered (txt x) empty h k = higher (txt x) empty refl refl
ordered (txt x) (num n) h k = higher (txt x) (num n) refl refl
ordered (txt x) (txt y) h k = ((λ e. ap txt (earlier_eq x y e)), earlier_once x y)
ordered (txt x) (truth u) h k = lower (txt x) (truth u) refl refl
ordered (truth t) empty h k = higher (truth t) empty refl refl
ordered (truth t) (num n) h k = higher (truth t) (num n) refl refl
ordered (truth t) (txt y) h k = higher (truth t) (txt y) refl refl
ordered (truth t) (truth u) h k = truths_ordered t u

pub numbers_right : NumbersRight
unfolding NumbersRight
numbers_right a b c = (add_comm_num a b, add_back a b, add_assoc_num a b c, times_comm a b, less_num_eq a b)

pub values_ordered : ValuesOrdered
unfolding ValuesOrdered
values_ordered = ordered
