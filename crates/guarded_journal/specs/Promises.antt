-- What the guarded recovery promises to the layers above, beside what the journal promises. Assumes nothing: these are definitions, and a statement, of
-- which a theorem function has a proof.
use Rattle.std.specs.Prelude.{ℕ, ◌+◌, ◌*◌, ◌≤◌, List, []}
use Rattle.plain.specs.Device.{Device, Line, stopped}
use Rattle.plain.specs.Stopping.{Always}
use Rattle.programs.specs.Machine.{at, Safe}
use Rattle.journal.specs.Journal.{Layout, Survives}
use Rattle.journal.specs.Promises.{Holds}
use Rattle.guarded_journal.specs.Programs.{recover}

-- recovering, stopped at any act, can begin again, as often as it likes
abbrev pub Recovers : Layout → (ℕ → Line) → Device → Type 0
Recovers Y D d = Safe (λ s. Always (Survives Y D) s.device) (recover Y.most Y.last) (at d [] 0) (λ a s. Holds Y D s.device × (s.used ≤ 3 * Y.most + 2))

-- GUARDED RECOVERY MAY BE STOPPED AT ANY ACT AND STARTED AGAIN: after any stop the durable lines are still those that survived
unfoldable pub RecoveredSo : Type 0
RecoveredSo = (Y : Layout) (D : ℕ → Line) (d : Device) (cs : List ℕ) → Always (Survives Y D) d → Recovers Y D (stopped d cs)
