-- What the journal promises to the layers above. Assumes nothing: these are definitions, and statements, of which theorem functions have proofs.
use Rattle.std.specs.Prelude.{ℕ, ◌+◌, ◌*◌, ◌≤◌, ◌⊎◌, List, [], length}
use Rattle.plain.specs.Device.{Device, Line, read_line, stopped, line_at, so_many_of}
use Rattle.plain.specs.Stopping.{Always}
use Rattle.programs.specs.Machine.{at, Safe}
use Rattle.journal.specs.Journal.{Write, written, word, entries, logical, Layout, Good, Sound, Says, Marks, Survives}
use Rattle.journal.specs.Programs.{batch, recover, Derived, After}

-- lines that were never written to
abbrev pub nothing : ℕ → Line
nothing k = so_many_of 64 0

module _ (Y : Layout) where
  -- idle, and the durable lines are D, whatever stops
  abbrev pub Holds : (ℕ → Line) → Device → Type 0
  Holds D d = Always (Marks Y D []) d

  -- the batch has happened wholly, or not at all
  abbrev pub Either : (ℕ → Line) → List Write → List Line → Type 0
  Either D ws ls = Survives Y D ls ⊎ Survives Y (written D ws) ls

  -- recovering, stopped at any act, can begin again, as often as it likes
  abbrev pub Recovers : (ℕ → Line) → Device → Type 0
  Recovers D d = Safe (λ s. Always (Survives Y D) s.device) recover (at d [] 0) (λ a s. Holds D s.device × (s.used ≤ 3 * Y.most + 2))

-- WHATEVER STOPS, A BATCH HAPPENED OR IT DID NOT: at every act of committing, whatever the cache had brought, the durable lines are as before or as after
-- the batch; at the end they are as after it, what is derived is as it was, and exactly 3 m + 2 lines were used for m entries
unfoldable pub WholeOrNot : Type 0
WholeOrNot =
    (Y : Layout) (D : ℕ → Line) (ws : List Write) (d : Device) → length ws ≤ Y.most → Good Y ws → Holds Y D d
    → Safe (λ s. (cs : List ℕ) → Either Y D ws (stopped s.device cs).lines)
    (batch ws) (at d [] 0) (After (Derived Y (read_line d)) (Marks Y (written D ws) []) [] (3 * length ws + 2))

-- RECOVERY MAY BE STOPPED AT ANY ACT AND STARTED AGAIN: after any stop the durable lines are still those that survived
unfoldable pub RecoveredSo : Type 0
RecoveredSo = (Y : Layout) (D : ℕ → Line) (d : Device) (cs : List ℕ) → Always (Survives Y D) d → Recovers Y D (stopped d cs)

-- What survives is one function of the lines: those that are committed overlaid on those that are there
unfoldable pub LogicalSo : Type 0
LogicalSo =
    (Y : Layout) (D : ℕ → Line) (ls : List Line) →
    (Survives Y D ls → Says Y (logical ls) D)
    × (Sound Y ls → word (line_at ls 0) ≤ Y.most → Good Y (entries ls 0 (word (line_at ls 0))) → Says Y (logical ls) D → Survives Y D ls)
