-- What the entry answers, way by way.
use Rattle.std.proofs.Math.Nat.{suc-ne-zero}
use Rattle.std.proofs.Common.{◌≡◌, ℕ, zero, suc, Bool, true, false, not, eqb, ltb, Some, None, Ok, Err, Option, Result, IsErrAnd, MatchResult, sym, refl, ap, ◌∙◌, ap₂, arith}
use Rattle.std.specs.Option.{ok_or}
use Rattle.std.proofs.lemmas.Bool.{le-ltb}
use Rattle.plain.specs.Commands.{small_num}
use Rattle.plain.specs.Read.{signed}
use Rattle.plain.specs.Term.{pick, Num, plus, minus, num, wrong, two, right_both}
use Rattle.numbers.specs.declared.reckon.Reply.TheVariants.{Above, Below, Wrong}
use Rattle.numbers.specs.declared.reckon.Reply.{Reply}
use Rattle.numbers.specs.declared.reckon.Refusal.{Refusal}
use Rattle.numbers.specs.declared.reckon.Refusal.TheVariants.{Size}
use Rattle.numbers.specs.declared.millionths.Millionths.{Millionths}
use Rattle.numbers.specs.Meaning.{IsFromSign, num_of}
use Rattle.numbers.specs.declared.reckon.Operation.{Operation}
use Rattle.numbers.specs.declared.reckon.Operation.TheVariants.{Sum, Difference, Product, Quotient}
use Rattle.numbers.specs.Entry.{number_from, replied, refused, reckoned, operation_of, operation_numbered, worked_out}

-- where a value stood, or none
stood : {A E : Type 0} (r : Option A) (e : E) (x : A) → Ok x ≡ ok_or r e → r ≡ Some x
stood None e x h = absurd (suc-ne-zero 0 cc)
stood (Some y) e x h = cc

lacked : {A E : Type 0} (r : Option A) (e f : E) → Err f ≡ ok_or r e → (r ≡ None) × (f ≡ e)
lacked None e f h = (refl, cc)
lacked (Some y) e f h = absurd (suc-ne-zero 0 cc)

pub refused_so : (r : Result Reply Refusal) (f : Refusal) (w : Reply) → IsErrAnd r (λ e. e ≡ f) → refused f ≡ w → MatchResult r (λ v. v ≡ w) (λ e. refused e ≡ w)
refused_so (Ok v) f w h e = absurd h
refused_so (Err g) f w h e = ap refused h ∙ e

-- how a number is told
pub told_below : (b : Bool) (n : ℕ) (v : Num) → signed b n ≡ v → b ≡ true → Below n ≡ replied (num v)
unfolding replied
told_below b n v e h = rw (← e, h)

pub told_above : (b : Bool) (n : ℕ) (v : Num) → signed b n ≡ v → b ≡ false → Above n ≡ replied (num v)
unfolding replied
told_above b n v e h = rw (← e, h)

pub told_wrong : (k n : ℕ) → k ≡ n → Wrong k ≡ replied (wrong n)
unfolding replied
told_wrong k n e = rw e

-- a number as it is spelled
from_is : (a x : ℕ) → signed (not (eqb x 0)) a ≡ number_from a x
from_is a x = go (eqb x 0)
  where
    go : (b : Bool) → signed (not b) a ≡ pick b (plus a) (minus a)
    go true = refl
    go false = refl

small_is : (a x : ℕ) → small_num (signed (not (eqb x 0)) a) ≡ ltb (pick (eqb x 0) a (suc a)) 4611686018427387904
unfolding small_num
small_is a x = go (eqb x 0)
  where
    go : (b : Bool) → small_num (signed (not b) a) ≡ ltb (pick b a (suc a)) 4611686018427387904
    go true = refl
    go false = refl

known : (k : ℕ) (o : Operation) → operation_of k ≡ Some o → ltb k 4 ≡ true
known zero o e = refl
known (suc zero) o e = refl
known (suc (suc zero)) o e = refl
known (suc (suc (suc zero))) o e = refl
known (suc (suc (suc (suc n)))) o e = absurd (suc-ne-zero 0 cc)

two_numbers : (k : ℕ) (o : Operation) (x y : Num) → Some o ≡ operation_of k → two k (num x) (num y) ≡ worked_out o x y
unfolding two right_both
two_numbers zero o x y e = let z : o ≡ Sum = cc in rw z
two_numbers (suc zero) o x y e = let z : o ≡ Difference = cc in rw z
two_numbers (suc (suc zero)) o x y e = let z : o ≡ Product = cc in rw z
two_numbers (suc (suc (suc zero))) o x y e = let z : o ≡ Quotient = cc in rw z
two_numbers (suc (suc (suc (suc n)))) o x y e = absurd (suc-ne-zero 0 cc)

no_such : (k : ℕ) → operation_of k ≡ None → ltb k 4 ≡ false
no_such zero e = absurd (suc-ne-zero 0 cc)
no_such (suc zero) e = absurd (suc-ne-zero 0 cc)
no_such (suc (suc zero)) e = absurd (suc-ne-zero 0 cc)
no_such (suc (suc (suc zero))) e = absurd (suc-ne-zero 0 cc)
no_such (suc (suc (suc (suc n)))) e = le-ltb _ 4 (omega arith)

module _ (k a x b y : ℕ) where
  pub no_operation : (f : Refusal) → Err f ≡ operation_numbered k → refused f ≡ reckoned k a x b y
  unfolding reckoned
  no_operation f e = let l = lacked _ _ _ e in rw (l.1, no_such k l.0)

  module _ (o : Operation) (e : Ok o ≡ operation_numbered k) where
    pub left_large : (r : Option Millionths) (f : Refusal) → IsFromSign (not (eqb x 0)) a r → Err f ≡ ok_or r Size → refused f ≡ reckoned k a x b y
    unfolding reckoned
    left_large r f h g = let l = lacked r _ _ g in rw (l.1, known k o (stood _ _ _ e), sym (small_is a x) ∙ (rw l.0 at h))

    pub right_large : (r s : Option Millionths) (m : Millionths) (f : Refusal) → IsFromSign (not (eqb x 0)) a r → Ok m ≡ ok_or r Size → IsFromSign (not (eqb y 0)) b s → Err f ≡ ok_or s Size → refused f ≡ reckoned k a x b y
    unfolding reckoned
    right_large r s m f h p i q = let l = lacked s _ _ q in let n = rw (stood r _ _ p) at h in rw (l.1, known k o (stood _ _ _ e), sym (small_is a x) ∙ n.0, sym (small_is b y) ∙ (rw l.0 at i))

    pub both_small : (r s : Option Millionths) (m n : Millionths) → IsFromSign (not (eqb x 0)) a r → Ok m ≡ ok_or r Size → IsFromSign (not (eqb y 0)) b s → Ok n ≡ ok_or s Size → replied (worked_out o (num_of m) (num_of n)) ≡ reckoned k a x b y
    unfolding reckoned
    both_small r s m n h p i q =
        let c = rw (stood r _ _ p) at h in let d = rw (stood s _ _ q) at i in
        rw (known k o (stood _ _ _ e), sym (small_is a x) ∙ c.0, sym (small_is b y) ∙ d.0)
        (ap₂ (λ u v. replied (worked_out o u v)) (c.1 ∙ from_is a x) (d.1 ∙ from_is b y) ∙ ap replied (sym (two_numbers k o (number_from a x) (number_from b y) (sym (stood _ _ _ e)))))
