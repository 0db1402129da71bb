-- How a row lies in its fixed memory. Assumes nothing: these are definitions.
use Rattle.std.specs.Prelude.{◌≡◌, ℕ, ◌-◌, ◌≤◌, ◌++◌, List, length, drop, replicate}

-- a row of so many bytes lies in the first of 1,040, and the others are 0
pub record IsFilledUp (bytes : List ℕ) (len : ℕ) : Type 0 where
  pub size : length bytes ≡ 1040
  pub within : len ≤ 1040
  pub behind : drop len bytes ≡ replicate (1040 - len) 0

abbrev pub filled_up : List ℕ → List ℕ
filled_up row = row ++ replicate (1040 - length row) 0
