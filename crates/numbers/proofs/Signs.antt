-- Reckoning with signed numbers is reckoning with millionths, and nothing overflows 128 bits.
use Rattle.std.proofs.Math.Nat.{suc-ne-zero}
use Rattle.std.proofs.Common.{◌≡◌, ℕ, zero, suc, ◌-◌, ◌*◌, ◌/◌, ◌^◌, ◌<◌, ◌≤◌, true, false, ℤ, pos, negsuc, ◌+ℤ◌, ◌*ℤ◌, neg_ℤ, sym, refl, ap, ◌∙◌, ap₂, le_trans, mul-le-mul, div-le_self, arith, w64, Bool, SFits, to_z, of_z, rules}
use native.Mathlib.Nat.{zero-div}
use lib.Signed.{lt_z, quot_z, mag}
use mir.Syntax.{w128}
use borrow.Author.Numbers.{signed_product}
use Rattle.std.proofs.lemmas.Bool.Decides.{nat_tests}
use Rattle.std.proofs.lemmas.Bool.{ne_eqb}
use Rattle.std.proofs.lemmas.Int.{to_z-of_z, ints}
use Rattle.plain.specs.Term.{Num, plus, Value, num, wrong, negative, add, times, divided, within, pick, apart, other, is_zero, less_num, minus}
use Rattle.plain.specs.Read.{signed as spelled}
use Rattle.std.specs.Ordering.{is_lt, int_cmp}
use Rattle.std.specs.Prelude.{Result, Ok, Err, MatchOption}
use Rattle.std.specs.Result.{result_ok}
use Rattle.plain.specs.Commands.{small_num}
use Rattle.numbers.specs.declared.wrong.Wrong.{Wrong}
use Rattle.numbers.specs.declared.millionths.Millionths.{Millionths}
use Rattle.numbers.specs.Meaning.{signed, num_of, made_of}

neg_num : (k : ℕ) → signed (neg_ℤ (pos k)) ≡ negative k
neg_num zero = refl
neg_num (suc k) = refl

neg_by_pos : (n d : ℕ) → signed (quot_z (neg_ℤ (pos n)) (pos d)) ≡ negative (n / d)
neg_by_pos zero d = rw (zero-div d)
neg_by_pos (suc n) d = neg_num (suc n / d)

neg_by_neg : (n d : ℕ) → signed (quot_z (neg_ℤ (pos n)) (negsuc d)) ≡ plus (n / suc d)
neg_by_neg zero d = rw (zero-div (suc d))
neg_by_neg (suc n) d = refl

pub times_is : (a b : ℤ) → signed (quot_z (a *ℤ b) (pos 1000000)) ≡ times (signed a) (signed b)
unfolding times
times_is (pos a) (pos b) = refl
times_is (pos a) (negsuc b) = neg_by_pos (a * suc b) 1000000
times_is (negsuc a) (pos b) = neg_by_pos (suc a * b) 1000000
times_is (negsuc a) (negsuc b) = refl

pub divided_is : (a b : ℤ) → signed (quot_z (a *ℤ pos 1000000) b) ≡ divided (signed a) (signed b)
unfolding divided
divided_is (pos a) (pos b) = refl
divided_is (pos a) (negsuc b) = neg_num (a * 1000000 / suc b)
divided_is (negsuc a) (pos b) = neg_by_pos (suc a * 1000000) b
divided_is (negsuc a) (negsuc b) = neg_by_neg (suc a * 1000000) b

apart_is : (a b : ℕ) → signed (pos a +ℤ negsuc b) ≡ apart a (suc b)
apart_is a b = grind (arith, nat_tests)

pub add_is : (a b : ℤ) → signed (a +ℤ b) ≡ add (signed a) (signed b)
unfolding add
add_is (pos a) (pos b) = refl
add_is (pos a) (negsuc b) = apart_is a b
add_is (negsuc a) (pos b) = apart_is b a
add_is (negsuc a) (negsuc b) = refl

pub within_in : (n : ℤ) → lt_z (negsuc 4611686018427387903) n ≡ true → lt_z n (pos 4611686018427387904) ≡ true → num (signed n) ≡ within (signed n)
unfolding within
within_in (pos n) l h = grind (arith, nat_tests)
within_in (negsuc n) l h = grind (arith, nat_tests)

pub within_high : (n : ℤ) → lt_z n (pos 4611686018427387904) ≡ false → wrong 3 ≡ within (signed n)
unfolding within
within_high (pos n) h = grind (arith, nat_tests)
within_high (negsuc n) h = grind (arith, nat_tests)

pub within_low : (n : ℤ) → lt_z (negsuc 4611686018427387903) n ≡ false → wrong 3 ≡ within (signed n)
unfolding within
within_low (pos n) h = grind (arith, nat_tests)
within_low (negsuc n) h = grind (arith, nat_tests)

pub small : (n : ℤ) → lt_z (negsuc 4611686018427387903) n ≡ true → lt_z n (pos 4611686018427387904) ≡ true → SFits w64 n
small n l h = search (rules, ints)

pub wide : (a : ℤ) → SFits w64 a → to_z w128 (of_z w128 (to_z w64 (of_z w64 a))) ≡ a
wide a f = let g : SFits w128 a = search rules in rw (to_z-of_z w64 a f) (to_z-of_z w128 a g)

pub product : (a b : ℤ) → SFits w64 a → SFits w64 b → SFits w128 (a *ℤ b)
product a b f g = rw (wide a f, wide b g) at (signed_product w128 w64 w64 a b f g tt)

negated : (n : ℕ) → mag (neg_ℤ (pos n)) ≡ n - 1
negated zero = refl
negated (suc n) = omega arith

pub quotient_fits : (x y : ℤ) → mag x < 2 ^ 127 - 1 → SFits w128 (quot_z x y)
quotient_fits (pos a) (pos b) h = record { sfits = omega (arith, div-le_self a b) }
quotient_fits (pos a) (negsuc b) h = record { sfits = omega (arith, div-le_self a (suc b), negated (a / suc b)) }
quotient_fits (negsuc a) (pos b) h = record { sfits = omega (arith, div-le_self (suc a) b, negated (suc a / b)) }
quotient_fits (negsuc a) (negsuc b) h = record { sfits = omega (arith, div-le_self (suc a) (suc b)) }

pub scaled : (a : ℤ) → SFits w64 a → mag (a *ℤ pos 1000000) < 2 ^ 100
scaled (pos a) f = omega (arith, f.sfits)
scaled (negsuc a) f = omega (arith, f.sfits, negated (suc a * 1000000))

mag_small : (a n : ℕ) → n ≤ 2 ^ 63 → a ≤ 2 ^ 63 → a * n ≤ 2 ^ 126
mag_small a n h k = le_trans (mul-le-mul {n₁ = a} {m₁ = n} {n₂ = 2 ^ 63} {m₂ = 2 ^ 63} k h) (omega arith)

pub multiplied : (a b : ℤ) → SFits w64 a → SFits w64 b → mag (a *ℤ b) < 2 ^ 127 - 1
multiplied (pos a) (pos b) f g = omega (arith, mag_small a b (omega (arith, g.sfits)) (omega (arith, f.sfits)))
multiplied (pos a) (negsuc b) f g = omega (arith, mag_small a (suc b) (omega (arith, g.sfits)) (omega (arith, f.sfits)), negated (a * suc b))
multiplied (negsuc a) (pos b) f g = omega (arith, mag_small (suc a) b (omega (arith, g.sfits)) (omega (arith, f.sfits)), negated (suc a * b))
multiplied (negsuc a) (negsuc b) f g = omega (arith, mag_small (suc a) (suc b) (omega (arith, g.sfits)) (omega (arith, f.sfits)))

pub not_zero : (b : ℤ) → SFits w64 b → (b ≡ pos 0 → ⊥) → 0 < of_z w128 b
not_zero (pos zero) f h = absurd (h refl)
not_zero (pos (suc n)) f h = omega arith
not_zero (negsuc n) f h = omega (arith, f.sfits)

-- a number of 64 bits as the code has it in 128
abbrev wider : ℤ → ℤ
wider a = to_z w128 (of_z w128 (to_z w64 (of_z w64 a)))

abbrev pub cut : ℤ → ℤ
cut a = to_z w128 (of_z w128 a)

other_is : (b : ℤ) → signed (neg_ℤ b) ≡ other (signed b)
unfolding other
other_is (pos zero) = refl
other_is (pos (suc n)) = refl
other_is (negsuc n) = refl

none_less : (a : ℤ) → signed (pos 0 +ℤ neg_ℤ a) ≡ other (signed a)
unfolding other
none_less (pos zero) = refl
none_less (pos (suc n)) = grind (arith, nat_tests)
none_less (negsuc n) = ap plus (omega arith)

zero_is : (a : ℤ) → a ≡ pos 0 → is_zero (signed a) ≡ true
zero_is a e = rw e

not_zero_is : (a : ℤ) → (a ≡ pos 0 → ⊥) → is_zero (signed a) ≡ false
not_zero_is (pos zero) h = absurd (h refl)
not_zero_is (pos (suc n)) h = ne_eqb (suc n) 0 (omega arith)
not_zero_is (negsuc n) h = refl

-- each way of reckoning, from what the code has
module _ (a b : ℤ) (x y : Num) (v : Value) (f : SFits w64 a) (g : SFits w64 b) (p : signed a ≡ x) (q : signed b ≡ y) where
  pub plus_so : v ≡ within (signed (cut (wider a +ℤ wider b))) → v ≡ within (add x y)
  plus_so h =
      let s : SFits w128 (a +ℤ b) = search (rules, ints) in
      (rw (wide a f, wide b g, to_z-of_z w128 (a +ℤ b) s) at h) ∙ (ap within (add_is a b) ∙ ap₂ (λ m n. within (add m n)) p q)

  pub minus_so : v ≡ within (signed (cut (wider a +ℤ neg_ℤ (wider b)))) → v ≡ within (add x (other y))
  minus_so h =
      let s : SFits w128 (a +ℤ neg_ℤ b) = search (rules, ints) in
      (rw (wide a f, wide b g, to_z-of_z w128 (a +ℤ neg_ℤ b) s) at h) ∙ (ap within (add_is a (neg_ℤ b) ∙ ap (add (signed a)) (other_is b)) ∙ ap₂ (λ m n. within (add m (other n))) p q)

  pub times_so : v ≡ within (signed (cut (quot_z (cut (wider a *ℤ wider b)) (pos 1000000)))) → v ≡ within (times x y)
  times_so h =
      let s = quotient_fits (a *ℤ b) (pos 1000000) (multiplied a b f g) in
      (rw (wide a f, wide b g, to_z-of_z w128 (a *ℤ b) (product a b f g), to_z-of_z w128 (quot_z (a *ℤ b) (pos 1000000)) s) at h) ∙ (ap within (times_is a b) ∙ ap₂ (λ m n. within (times m n)) p q)

  scaled_fits : SFits w128 (a *ℤ pos 1000000)
  scaled_fits = record { sfits = omega (arith, scaled a f) }

  pub divided_so : (b ≡ pos 0 → ⊥) → v ≡ within (signed (cut (quot_z (cut (wider a *ℤ pos 1000000)) (wider b)))) → v ≡ pick (is_zero y) (wrong 2) (within (divided x y))
  divided_so n h =
      let s = quotient_fits (a *ℤ pos 1000000) b (omega (arith, scaled a f)) in
      let z : is_zero y ≡ false = ap is_zero (sym q) ∙ not_zero_is b n in
      rw z ((rw (wide a f, wide b g, to_z-of_z w128 (a *ℤ pos 1000000) scaled_fits, to_z-of_z w128 (quot_z (a *ℤ pos 1000000) b) s) at h)
      ∙ (ap within (divided_is a b) ∙ ap₂ (λ m n. within (divided m n)) p q))

  pub divisor_so : (b ≡ pos 0 → ⊥) → (0 < of_z w128 (to_z w64 (of_z w64 b))) × SFits w128 (quot_z (cut (wider a *ℤ pos 1000000)) (wider b))
  divisor_so n =
      rw (wide a f, wide b g, to_z-of_z w128 (a *ℤ pos 1000000) scaled_fits)
      (rw (to_z-of_z w64 b g) (not_zero b g n), quotient_fits (a *ℤ pos 1000000) b (omega (arith, scaled a f)))

pub opposite_so : (a : ℤ) (x : Num) (v : Value) → SFits w64 a → signed a ≡ x → v ≡ within (signed (cut (pos 0 +ℤ neg_ℤ (wider a)))) → v ≡ within (other x)
opposite_so a x v f p h =
    let s : SFits w128 (pos 0 +ℤ neg_ℤ a) = search (rules, ints) in
    (rw (wide a f, to_z-of_z w128 (pos 0 +ℤ neg_ℤ a) s) at h) ∙ (ap within (none_less a) ∙ ap (λ m. within (other m)) p)

pub zero_so : (b : ℤ) (y : Num) (v : Value) → signed b ≡ y → b ≡ pos 0 → wrong 2 ≡ pick (is_zero y) (wrong 2) v
zero_so b y v q e = let z : is_zero y ≡ true = ap is_zero (sym q) ∙ zero_is b e in rw z

-- the derived order is that of numbers
pub less_is : (a b : ℤ) → is_lt (int_cmp a b) ≡ less_num (signed a) (signed b)
unfolding less_num
less_is (pos a) (pos b) = grind (arith, nat_tests)
less_is (pos a) (negsuc b) = grind (arith, nat_tests)
less_is (negsuc a) (pos b) = grind (arith, nat_tests)
less_is (negsuc a) (negsuc b) = grind (arith, nat_tests)

-- what is within the limit is small
limited : (b : Bool) (r : Result Millionths Wrong) (n : Num) → made_of r ≡ pick b (num n) (wrong 3) → MatchOption (result_ok r) (b ≡ false) (λ m. (b ≡ true) × (num_of m ≡ n))
limited true (Ok m) n e = (refl, cc)
limited true (Err w) n e = absurd (suc-ne-zero 0 cc)
limited false (Ok m) n e = absurd (suc-ne-zero 0 cc)
limited false (Err w) n e = refl

pub small_so : (r : Result Millionths Wrong) (n : Num) → made_of r ≡ within n → MatchOption (result_ok r) (small_num n ≡ false) (λ m. (small_num n ≡ true) × (num_of m ≡ n))
unfolding within small_num
small_so r (plus n) e = limited _ r (plus n) e
small_so r (minus n) e = limited _ r (minus n) e

-- a number as it is spelled, from the integer that the code comes to
pub below_from : (k : ℤ) (n : ℕ) → k ≡ negsuc n → signed k ≡ spelled true n
below_from k n e = ap signed e

pub above_from : (k : ℤ) (n : ℕ) → k ≡ pos n → signed k ≡ spelled false n
above_from k n e = ap signed e

-- a number as it is spelled, as the code has it
pub below_so : (n : ℕ) → n < 2 ^ 64 → signed (cut (negsuc 0 +ℤ neg_ℤ (cut (pos n)))) ≡ spelled true n
below_so n h =
    let p : SFits w128 (pos n) = record { sfits = omega arith } in
    let e : negsuc 0 +ℤ neg_ℤ (pos n) ≡ negsuc n = grind (arith, nat_tests) in
    let s : SFits w128 (negsuc n) = record { sfits = omega arith } in
    rw (to_z-of_z w128 (pos n) p, e) (below_from _ n (to_z-of_z w128 (negsuc n) s))

pub above_so : (n : ℕ) → n < 2 ^ 64 → signed (cut (pos n)) ≡ spelled false n
above_so n h = let s : SFits w128 (pos n) = record { sfits = omega arith } in above_from _ n (to_z-of_z w128 (pos n) s)
