-- A device that keeps lines of 64 bytes over a power failure, behind a cache that writes stores back whenever it likes and in any order.
-- Assumes nothing: these are definitions.
use Rattle.std.specs.Prelude.{ℕ, zero, suc, Bool, ◌&&◌, List, [], ◌∷◌, ◌++◌, length, ◌==◌, nat_lt}
use Rattle.plain.specs.Term.{pick, every}

abbrev pub Line : Type 0
Line = List ℕ

-- a store to a line waits in the cache until the line is settled, or until the cache brings it there
pub record Store : Type 0 where
  pub at : ℕ
  pub line : Line

pub record Device : Type 0 where
  pub lines : List Line
  pub cache : List Store

unfoldable pub set_line : List Line → ℕ → Line → List Line
set_line [] k p = []
set_line (q ∷ qs) zero p = p ∷ qs
set_line (q ∷ qs) (suc k) p = q ∷ set_line qs k p

unfoldable pub line_at : List Line → ℕ → Line
line_at [] k = []
line_at (q ∷ qs) zero = q
line_at (q ∷ qs) (suc k) = line_at qs k

unfoldable pub all_stored : List Line → List Store → List Line
all_stored ls [] = ls
all_stored ls (w ∷ ws) = all_stored (set_line ls w.at w.line) ws

-- whoever reads sees what's in the cache
abbrev pub read_line : Device → ℕ → Line
read_line d k = line_at (all_stored d.lines d.cache) k

unfoldable pub of_line : ℕ → List Store → List Store
of_line k [] = []
of_line k (w ∷ ws) = pick (w.at == k) (w ∷ of_line k ws) (of_line k ws)

unfoldable pub of_others : ℕ → List Store → List Store
of_others k [] = []
of_others k (w ∷ ws) = pick (w.at == k) (of_others k ws) (w ∷ of_others k ws)

-- settling brings all stores to one line there, and none else
abbrev pub settled : Device → ℕ → Device
settled d k = record { lines = all_stored d.lines (of_line k d.cache); cache = of_others k d.cache }

abbrev pub storing : Device → ℕ → Line → Device
storing d k p = record { lines = d.lines; cache = d.cache ++ record { at = k; line = p } ∷ [] }

-- a stop: of the stores in the cache, in turn, each had been brought there (1) or not; of a line the last of those that had counts. What is not said is 0
unfoldable pub left : List Line → List Store → List ℕ → List Line
left ls [] cs = ls
left ls (w ∷ ws) [] = ls
left ls (w ∷ ws) (c ∷ cs) = left (pick (c == 1) (set_line ls w.at w.line) ls) ws cs

abbrev pub stopped : Device → List ℕ → Device
stopped d cs = record { lines = left d.lines d.cache cs; cache = [] }

unfoldable pub so_many_of : {A : Type 0} → ℕ → A → List A
so_many_of zero x = []
so_many_of (suc n) x = x ∷ so_many_of n x

abbrev pub fresh : ℕ → Device
fresh lines = record { lines = so_many_of lines (so_many_of 64 0); cache = [] }

abbrev pub a_line : Line → Bool
a_line p = length p == 64 && every (λ b. nat_lt b 256) p
