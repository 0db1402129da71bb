-- A machine told by programs: its memory holds registers and the answers so far of the stage that it is in; told one event more, it runs the stage
-- again against them, and does the act that is wanted next. And a logic for its programs: what is Safe, and what is Going. Assumes nothing.
use Rattle.std.specs.Prelude.{◌≡◌, ℕ, zero, suc, ◌<◌, true, List, [], ◌∷◌, ◌++◌, length}
use Rattle.plain.specs.Term.{pick}
use Rattle.plain.specs.Device.{Device, Line, read_line, storing, settled, a_line, so_many_of}
use Rattle.plain.specs.Run.{Act, read, store, settle, shows, done, refused, Event, on, said, line, next, Step, Engine, storable}
use Rattle.programs.specs.Prog.{Prog, ret, ask, feed, Short, Lined}

-- how a stage comes out: another stage, or the end, with these registers; 0 is done and others are refusals
pub data Next (R : Type 0) : Type 0 where
  then : R → Next R
  over : R → ℕ → Next R

-- what stages see, and the engine; that a memory holds what they see, and these answers on its tape
pub record Machine : Type 1 where
  pub Reg : Type 0
  pub stage : Reg → Prog (Next Reg)
  pub boot : ℕ → Reg
  pub hear : Reg → List ℕ → Next Reg
  pub engine : Engine
  pub Holds : List ℕ → Reg → List Line → Type 0

-- what is answered to an act that is no read
unfoldable pub blank : Line
blank = so_many_of 64 0

-- what is no line is taken for a blank one
unfoldable pub tidy : Line → Line
tidy l = pick (a_line l) l blank

abbrev pub ends : ℕ → Act
ends zero = done
ends (suc k) = refused (suc k)

abbrev pub doing : List ℕ → Act → Step
doing m x = record { memory = m; act = x }

-- where a program is: the device, what was shown, and how many lines were read and stored
pub record At : Type 0 where
  pub device : Device
  pub showed : List (List ℕ)
  pub used : ℕ

abbrev pub at : Device → List (List ℕ) → ℕ → At
at d ss u = record { device = d; showed = ss; used = u }

abbrev pub answer : Act → At → Line
answer (read k) s = tidy (read_line s.device k)
answer (store k p) s = blank
answer (settle k) s = blank
answer (shows row) s = blank
answer done s = blank
answer (refused k) s = blank

abbrev pub after : Act → At → At
after (read k) s = at s.device s.showed (suc s.used)
after (store k p) s = at (storing s.device k p) s.showed (suc s.used)
after (settle k) s = at (settled s.device k) s.showed s.used
after (shows row) s = at s.device (s.showed ++ row ∷ []) s.used
after done s = s
after (refused k) s = s

-- a stage stores only what can be stored, and ends by coming out
abbrev pub Fits : Act → At → Type 0
Fits (read k) s = Unit {0}
Fits (store k p) s = storable s.device k p ≡ true
Fits (settle k) s = Unit {0}
Fits (shows row) s = Unit {0}
Fits done s = ⊥
Fits (refused k) s = ⊥

-- at each point C holds, each act fits, and in the end Q holds
unfoldable pub Safe : {A : Type 0} → (At → Type 0) → Prog A → At → (A → At → Type 0) → Type 0
Safe C (ret a) s Q = C s × Q a s
Safe C (ask x k) s Q = C s × Fits x s × Safe C (k (answer x s)) (after x s) Q

abbrev pub reply : Act → At → Event
reply (read k) s = line (read_line s.device k)
reply (store k p) s = next
reply (settle k) s = next
reply (shows row) s = next
reply done s = next
reply (refused k) s = next

module _ (M : Machine) (Ok : M.Reg → Type 0) where
  -- a step that does the first act of a stage
  abbrev pub Begun : M.Reg → Prog (Next M.Reg) → Step → Type 0
  Begun r (ret a) z = ⊥
  Begun r (ask x k) z = (m : List ℕ) × M.Holds m r [] × (z ≡ doing m x)

  -- a step that does what is next in a program
  abbrev pub Did : M.Reg → List Line → Prog (Next M.Reg) → Step → Type 0
  Did r t (ask x k) z = (m : List ℕ) × M.Holds m r t × (z ≡ doing m x)
  Did r t (ret (then r₁)) z = Ok r₁ → Begun r₁ (M.stage r₁) z
  Did r t (ret (over r₁ k)) z = Ok r₁ → (m : List ℕ) × M.Holds m r₁ [] × (z ≡ doing m (ends k))

  -- what is owed of the engine
  pub record Laws : Type 0 where
    pub cap : ℕ
    pub short : (r : M.Reg) → Ok r → Short cap (M.stage r) (λ a. Unit {0})
    pub answers : (m : List ℕ) (r : M.Reg) (t : List Line) (x : Act) (k : Line → Prog (Next M.Reg)) (s : At)
        → M.Holds m r t → Ok r → Lined t → length t < cap → feed (M.stage r) t ≡ ask x k
        → Did r (t ++ answer x s ∷ []) (k (answer x s)) (M.engine.step m (reply x s))
    pub says : (m : List ℕ) (r : M.Reg) (text : List ℕ) → M.Holds m r [] → Did r [] (ret (M.hear r text)) (M.engine.step m (said text))
    pub wakes : (n : ℕ) → Did (M.boot n) [] (ret (then (M.boot n))) (M.engine.step M.engine.start (on n))

-- a finite derivation that stage after stage goes well, to an end at which Q holds
pub data Going (M : Machine) (Ok : M.Reg → Type 0) (C : At → Type 0) (Q : M.Reg → ℕ → At → Type 0) : Prog (Next M.Reg) → At → Type 0 where
  asks : {x : Act} {k : Line → Prog (Next M.Reg)} {s : At} → C s → Fits x s → Going M Ok C Q (k (answer x s)) (after x s) → Going M Ok C Q (ask x k) s
  turns : {r : M.Reg} {s : At} → C s → Ok r → Going M Ok C Q (M.stage r) s → Going M Ok C Q (ret (then r)) s
  halts : {r : M.Reg} {k : ℕ} {s : At} → C s → Ok r → k < 1000 → Q r k s → Going M Ok C Q (ret (over r k)) s
