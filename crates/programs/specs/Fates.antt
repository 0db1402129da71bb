-- What becomes of a machine whose programs go well: it ends, or it is still running and could be stopped. Assumes nothing: these are definitions
-- and statements.
use Rattle.std.specs.Prelude.{◌≡◌, ℕ, ◌<◌, ◌⊎◌, List, [], ◌++◌, length}
use Rattle.plain.specs.Run.{World, Ran, on_device, ran, woken, ran_as}
use Rattle.programs.specs.Prog.{ret}
use Rattle.programs.specs.Machine.{Machine, then, At, at, Laws, Going}

module _ (M : Machine) (Ok : M.Reg → Type 0) (C : At → Type 0) (Q : M.Reg → ℕ → At → Type 0) where
  -- a complete run ends so, having shown more, maybe, than what was shown here
  abbrev pub Comes : At → Type 0
  Comes s = (r : M.Reg) × (k : ℕ) × (s₁ : At) × (more : List (List ℕ)) × (s₁.showed ≡ s.showed ++ more) × (k < 1000) × Q r k s₁

  -- it has ended, with Q; the memory holds the registers
  abbrev pub Ended : Ran → Type 0
  Ended x = (m : List ℕ) × (r : M.Reg) × (k : ℕ) × (s : At) × (x ≡ ran (on_device m s.device) s.showed s.used k)
      × M.Holds m r [] × Ok r × (k < 1000) × Q r k s × C s

  -- it is still running, and C holds
  abbrev pub Running : Ran → Type 0
  Running x = (m : List ℕ) × (s : At) × (x ≡ ran (on_device m s.device) s.showed s.used 1000) × C s × Comes s

  -- a command that is said, and power that comes, go well
  abbrev pub Hears : World → M.Reg → List ℕ → Type 0
  Hears v r text = M.Holds v.memory r [] × Going M Ok C Q (ret (M.hear r text)) (at v.device [] 0)

  abbrev pub Wakes : World → Type 0
  Wakes v = Going M Ok C Q (ret (then (M.boot (length v.device.lines)))) (at v.device [] 0)

-- a machine with its laws, a crash predicate and what holds at the end
pub record Derivation : Type 1 where
  pub M : Machine
  pub Ok : M.Reg → Type 0
  pub laws : Laws M Ok
  pub C : At → Type 0
  pub Q : M.Reg → ℕ → At → Type 0

-- A derivation that a command, or power, goes well gives a number of acts after which it has ended as the derivation says
unfoldable pub EndsSo : Derivation → Type 0
EndsSo b =
    ((v : World) (r : b.M.Reg) (text : List ℕ) → Hears b.M b.Ok b.C b.Q v r text → (n : ℕ) × Ended b.M b.Ok b.C b.Q (ran_as b.M.engine n v text))
    × ((v : World) → Wakes b.M b.Ok b.C b.Q v → (n : ℕ) × Ended b.M b.Ok b.C b.Q (woken b.M.engine n v))

-- After any number of acts it has ended so, or it is still running, the crash predicate holds, and what was shown is a beginning of what would be shown
unfoldable pub StopsSo : Derivation → Type 0
StopsSo b =
    ((v : World) (r : b.M.Reg) (text : List ℕ) → Hears b.M b.Ok b.C b.Q v r text → (n : ℕ) →
    Ended b.M b.Ok b.C b.Q (ran_as b.M.engine n v text) ⊎ Running b.M b.Ok b.C b.Q (ran_as b.M.engine n v text))
    × ((v : World) → Wakes b.M b.Ok b.C b.Q v → (n : ℕ) →
    Ended b.M b.Ok b.C b.Q (woken b.M.engine n v) ⊎ Running b.M b.Ok b.C b.Q (woken b.M.engine n v))
