-- How a row lies in its fixed memory.
use Rattle.std.proofs.Common.{◌≡◌, ℕ, ◌-◌, ◌<◌, ◌≤◌, min, Bool, true, false, leb, List, ◌++◌, length, take, drop, replicate, refl, ◌∙◌, arith}
use Rattle.std.proofs.lemmas.Bool.{leb-true, leb-false}
use Rattle.std.proofs.lemmas.List.{length-append, length-take-le, length-drop, drop-replicate, take_all, take_at, drop_at}
use Rattle.lines.specs.Row.{IsFilledUp}

module _ (bytes row : List ℕ) (n : ℕ) (f : row ≡ take n bytes) where
  long : n ≤ length bytes → length row ≡ n
  long h = rw f (length-take-le n bytes h)

  pub row_filled_up : n ≤ length bytes → n ≤ 1040 → IsFilledUp (row ++ drop n (replicate 1040 0)) n
  row_filled_up h k =
      let l = long h in
      let z : length (drop n (replicate {A = ℕ} 1040 0)) ≡ 1040 - n = length-drop n (replicate 1040 0) in
      record {
        size = length-append row (drop n (replicate 1040 0)) ∙ omega arith;
        within = k;
        behind = drop_at row (drop n (replicate 1040 0)) n l ∙ drop-replicate n 1040 0;
      }

  pub row_cut : n ≡ min (length bytes) 1040 → take n (row ++ drop n (replicate 1040 0)) ≡ take 1040 bytes
  row_cut e = take_at row (drop n (replicate 1040 0)) n (long (omega arith)) ∙ rw f (front (leb (length bytes) 1040) refl)
    where
      front : (b : Bool) → leb (length bytes) 1040 ≡ b → take n bytes ≡ take 1040 bytes
      front true h = let q : length bytes ≤ 1040 = leb-true _ _ h in rw (take_all n bytes (omega arith), take_all 1040 bytes q)
      front false h = let q : 1040 < length bytes = leb-false _ _ h in let z : n ≡ 1040 = omega arith in rw z
