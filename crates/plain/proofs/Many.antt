-- Lists of one element, so many times.
use Rattle.std.proofs.Common.{◌≡◌, ℕ, zero, suc, true, eqb, length, refl, ap}
use Rattle.plain.specs.Term.{every}
use Rattle.plain.specs.Device.{so_many_of}

pub length_many : {A : Type 0} (n : ℕ) (x : A) → length (so_many_of n x) ≡ n
unfolding so_many_of
length_many zero x = refl
length_many (suc n) x = ap suc (length_many n x)

pub all_zero : (n : ℕ) → every (λ m. eqb m 0) (so_many_of n 0) ≡ true
unfolding so_many_of
all_zero zero = refl
all_zero (suc n) = all_zero n
