-- A machine beside plain states: what is owed of its programs, and what follows. Assumes nothing: these are definitions and statements.
use Rattle.std.specs.Prelude.{◌≡◌, ℕ, suc, Bool, true, false, ◌⊎◌, List, [], length}
use Rattle.plain.specs.Device.{Device, stopped}
use Rattle.plain.specs.Run.{World, Item, proper, Right}
use Rattle.programs.specs.Prog.{ret}
use Rattle.programs.specs.Machine.{Machine, then, At, at, Laws, Going}

-- a plain state S. With so many items still to come: Up is how the registers and the device stand for a state while there is power,
-- Down how the device does while there is none
pub record Plain (M : Machine) : Type 1 where
  pub S : Type 0
  pub may : S → List ℕ → List (List ℕ) → ℕ → ℕ → S → Type 0
  pub after : S → S
  pub Up : ℕ → S → M.Reg → Device → Type 0
  pub Down : ℕ → S → Device → Type 0

module _ (M : Machine) (H : Plain M) where
  abbrev pub WakeCrash : ℕ → H.S → At → Type 0
  WakeCrash n s x = (x.showed ≡ []) × ((cs : List ℕ) → H.Down n s (stopped x.device cs))

  abbrev pub WakeEnd : ℕ → H.S → M.Reg → ℕ → At → Type 0
  WakeEnd n s r k x = (k ≡ 0) × H.Up n s r x.device

  abbrev pub SaidCrash : ℕ → H.S → H.S → At → Type 0
  SaidCrash n s s₁ x = (cs : List ℕ) → H.Down n (H.after s) (stopped x.device cs) ⊎ H.Down n (H.after s₁) (stopped x.device cs)

  abbrev pub SaidEnd : ℕ → H.S → List ℕ → H.S → M.Reg → ℕ → At → Type 0
  SaidEnd n s text s₁ r k x = H.may s text x.showed x.used k s₁ × H.Up n s₁ r x.device

  -- what is owed
  pub record Owed (Ok : M.Reg → Type 0) : Type 0 where
    pub cut : (n : ℕ) (s : H.S) (r : M.Reg) (d : Device) (cs : List ℕ) → H.Up n s r d → H.Down n (H.after s) (stopped d cs)
    pub wakes : (n : ℕ) (s : H.S) (d : Device) → H.Down (suc n) s d
        → Going M Ok (WakeCrash n s) (WakeEnd n s) (ret (then (M.boot (length d.lines)))) (at d [] 0)
    pub hears : (n : ℕ) (s : H.S) (r : M.Reg) (d : Device) (text : List ℕ) → H.Up (suc n) s r d
        → (s₁ : H.S) × Going M Ok (SaidCrash n s s₁) (SaidEnd n s text s₁) (ret (M.hear r text)) (at d [] 0)

-- how a world stands for a state: with power memory holds registers, and an empty tape; without it only the device counts
abbrev pub Stands : (M : Machine) (H : Plain M) → Bool → ℕ → World → H.S → Type 0
Stands M H true n v s = (r : M.Reg) × M.Holds v.memory r [] × H.Up n s r v.device
Stands M H false n v s = H.Down n s v.device

-- a machine with all that is owed of it
pub record Bundle : Type 1 where
  pub M : Machine
  pub Ok : M.Reg → Type 0
  pub laws : Laws M Ok
  pub H : Plain M
  pub owed : Owed M H Ok

-- THE THEOREM: from the three obligations (a stop leaves what is Down, power brings it Up, and a command is answered as it may be, whatever stops),
-- whatever comes, in whatever order, the machine is right beside the plain states
unfoldable pub RightAlways : Bundle → Type 0
RightAlways b =
    (is : List Item) (up : Bool) (v : World) (s : b.H.S) → Stands b.M b.H up (length is) v s → proper up is ≡ true →
    Right b.H.may b.H.after b.M.engine v s is
