-- A journal over a device of lines: a batch of writes to durable lines happens wholly or not at all. Line 0, the superblock, says how many entries
-- are committed; entry i is in the lines 1 + 2 i (its target) and 2 + 2 i (its content). Assumes nothing: these are definitions.
use Rattle.std.specs.Prelude.{◌≡◌, ℕ, zero, suc, ◌+◌, ◌*◌, ◌<◌, ◌≤◌, true, ◌⊎◌, List, [], ◌∷◌, ◌++◌, length, take, ◌==◌}
use Rattle.plain.specs.Term.{pick, eight}
use Rattle.plain.specs.Device.{Line, line_at, a_line, so_many_of}

-- NUMBERS IN LINES: the first eight bytes, the highest first
unfoldable pub value : ℕ → List ℕ → ℕ
value n [] = n
value n (b ∷ bs) = value (n * 256 + b) bs

unfoldable pub word : Line → ℕ
word l = value 0 (take 8 l)

unfoldable pub word_line : ℕ → Line
word_line n = eight n ++ so_many_of 56 0

-- WRITES: of those to a line the last counts
pub record Write : Type 0 where
  pub to : ℕ
  pub text : Line

unfoldable pub latest : ℕ → List Write → Line → Line
latest k [] l = l
latest k (w ∷ ws) l = latest k ws (pick (w.to == k) w.text l)

abbrev pub written : (ℕ → Line) → List Write → ℕ → Line
written D ws k = latest k ws (D k)

-- THE LINES: so many writes at most; the durable lines are those behind the journal and before `last`; what is behind those is derived
pub record Layout : Type 0 where
  pub most : ℕ
  pub last : ℕ
  pub lines : ℕ
  pub room : 1 + 2 * most ≤ last
  pub inside : last ≤ lines
  pub small : lines ≤ 18446744073709551616

-- the writes ws are logged, from the i-th on
unfoldable pub Logged : List Line → ℕ → List Write → Type 0
Logged ls i [] = Unit {0}
Logged ls i (w ∷ ws) = (word (line_at ls (1 + 2 * i)) ≡ w.to) × (line_at ls (2 + 2 * i) ≡ w.text) × Logged ls (suc i) ws

-- the writes that the lines log, and what line k is with those that are committed
unfoldable pub entries : List Line → ℕ → ℕ → List Write
entries ls i zero = []
entries ls i (suc m) = record { to = word (line_at ls (1 + 2 * i)); text = line_at ls (2 + 2 * i) } ∷ entries ls (suc i) m

unfoldable pub logical : List Line → ℕ → Line
logical ls k = written (line_at ls) (entries ls 0 (word (line_at ls 0))) k

module _ (Y : Layout) where
  abbrev pub first : ℕ
  first = 1 + 2 * Y.most

  unfoldable pub Good : List Write → Type 0
  Good [] = Unit {0}
  Good (w ∷ ws) = (first ≤ w.to) × (w.to < Y.last) × (a_line w.text ≡ true) × Good ws

  -- there are all lines, and they are lines
  pub record Sound (ls : List Line) : Type 0 where
    pub size : length ls ≡ Y.lines
    pub lined : (k : ℕ) → k < Y.lines → a_line (line_at ls k) ≡ true

  -- the durable lines are D
  abbrev pub Says : (ℕ → Line) → (ℕ → Line) → Type 0
  Says f D = (k : ℕ) → first ≤ k → k < Y.last → f k ≡ D k

  -- the writes ws are committed, and with them the durable lines are D; if there are none: the durable lines are D
  pub record Marks (D : ℕ → Line) (ws : List Write) (ls : List Line) : Type 0 where
    pub sound : Sound ls
    pub head : word (line_at ls 0) ≡ length ws
    pub logged : Logged ls 0 ws
    pub says : Says (written (line_at ls) ws) D

  -- what survives is D
  pub record Survives (D : ℕ → Line) (ls : List Line) : Type 0 where
    pub committed : List Write
    pub few : length committed ≤ Y.most
    pub good : Good committed
    pub marks : Marks D committed ls

  -- idle, with the writes ws logged and not committed
  abbrev pub Ready : (ℕ → Line) → List Write → List Line → Type 0
  Ready D ws ls = Marks D [] ls × Logged ls 0 ws

  -- committed, with the writes vs of them still to be applied
  abbrev pub Committed : (ℕ → Line) → List Write → List Write → List Line → Type 0
  Committed D ws vs ls = Marks D ws ls × Says (written (line_at ls) vs) D

  -- a line that counts for nothing: an entry that is not used, or one that is derived
  abbrev pub Free : ℕ → ℕ → Type 0
  Free m k = (1 + 2 * m ≤ k) × ((k < first) ⊎ (Y.last ≤ k))

  -- 1. a write is logged, in two steps
  abbrev pub Half : (ℕ → Line) → List Write → ℕ → List Line → Type 0
  Half D us t ls = Ready D us ls × (word (line_at ls (1 + 2 * length us)) ≡ t)
