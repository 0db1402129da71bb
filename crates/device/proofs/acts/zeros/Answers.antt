use Rattle.std.proofs.Common.{◌≡◌, ℕ, zero, suc, ◌-◌, List, [], ◌++◌, take, replicate, refl, ap, ◌∙◌, ap₂, arith}
use Rattle.plain.specs.Device.{so_many_of}
use Rattle.device.proofs.Seen.{many_replicated}
use Rattle.device.proofs.acts.zeros.Goals as goal

none_taken : {A : Type 0} (n : ℕ) (xs ys : List A) → xs ≡ [] → take n xs ++ ys ≡ ys
none_taken zero xs ys e = refl
none_taken (suc n) xs ys e = ap (λ zs. take (suc n) zs ++ ys) e

grown : {A : Type 0} (n m : ℕ) (xs : List A) (x y : A) → xs ≡ [] → m ≡ 0 → x ≡ y → take n xs ++ replicate (n - m) x ≡ so_many_of n y
grown n m xs x y e h f =
    let z : n - m ≡ n = omega arith in
    none_taken n xs (replicate (n - m) x) e ∙ (ap₂ (λ i a. replicate i a) z f ∙ many_replicated n y)

pub returns : goal.returns
returns c = c.in_ok-resize.ensures.items ∙ grown _ _ _ _ _ c.new-all.ensures.items c.new-all.ensures.len (many_replicated 64 0)
