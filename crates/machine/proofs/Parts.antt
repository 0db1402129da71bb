-- Parts of a memory, and words that fit.
use Rattle.std.proofs.Common.{◌≡◌, ℕ, suc, ◌<◌, List, [], ◌∷◌, ◌++◌, length, get_or, take, set, refl, ap, ◌∙◌, ap₂, arith}
use Rattle.std.proofs.lemmas.List.{length-append, length-take-le, take_at}
use Rattle.plain.specs.Term.{each}
use Rattle.plain.specs.Device.{Line, so_many_of}
use Rattle.plain.proofs.Many.{length_many}
use Rattle.lines.specs.Words.{words_in}
use Rattle.machine.specs.Memory.{small, fixed, put_at, saved}

pub words_long : (l : Line) → length (words_in l) ≡ 8
unfolding words_in
words_long l = refl

pub length_fixed : (n : ℕ) (xs : List ℕ) → length (fixed n xs) ≡ n
unfolding fixed
length_fixed n xs =
    let a = length-append (each small xs) (so_many_of n 0) in let b = length_many {A = ℕ} n 0 in
    length-take-le n (each small xs ++ so_many_of n 0) (omega arith)

-- words that fit are small already
each_small : (xs : List ℕ) → ((i : ℕ) → get_or xs i 0 < 18446744073709551616) → each small xs ≡ xs
each_small [] f = refl
each_small (x ∷ xs) f = let q = f 0 in let z : small x ≡ x = omega arith in ap₂ (λ y ys. y ∷ ys) z (each_small xs (λ i. f (suc i)))

pub fixed_own : (n : ℕ) (xs : List ℕ) → length xs ≡ n → ((i : ℕ) → get_or xs i 0 < 18446744073709551616) → fixed n xs ≡ xs
unfolding fixed
fixed_own n xs l f = ap (λ ys. take n (ys ++ so_many_of n 0)) (each_small xs f) ∙ take_at xs (so_many_of n 0) n l

-- a stage begins
pub saved_so : (m rs xs : List ℕ) → length m ≡ 262144 → length rs ≡ 63 → xs ≡ rs → ((i : ℕ) → get_or rs i 0 < 18446744073709551616) → put_at 1 63 (set m 0 0) xs ≡ saved m rs
unfolding saved
saved_so [] rs xs h l e f = absurd (omega arith)
saved_so (x ∷ m) rs xs h l e f = rw (e, fixed_own 63 rs l f)
