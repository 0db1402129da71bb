-- The journal's programs: entries are logged, committed, applied and cleared; and when power comes what was committed is applied again. Assumes
-- nothing: these are definitions.
use Rattle.std.specs.Prelude.{◌≡◌, ℕ, zero, suc, ◌+◌, ◌*◌, ◌<◌, ◌≤◌, List, [], ◌∷◌, length}
use Rattle.plain.specs.Device.{Device, Line, line_at, set_line}
use Rattle.plain.specs.Run.{read, store, settle}
use Rattle.plain.specs.Stopping.{Is}
use Rattle.programs.specs.Prog.{Prog, ret, ask, bind}
use Rattle.programs.specs.Machine.{At, at}
use Rattle.journal.specs.Journal.{Write, word, word_line, Layout}

-- a line is stored and settled
abbrev pub write : ℕ → Line → Prog (Unit {0})
write k p = ask (store k p) (λ l. ask (settle k) (λ m. ret tt))

abbrev pub log : ℕ → Write → Prog (Unit {0})
log i w = bind (write (1 + 2 * i) (word_line w.to)) (λ a. write (2 + 2 * i) w.text)

unfoldable pub log_all : ℕ → List Write → Prog (Unit {0})
log_all i [] = ret tt
log_all i (w ∷ ws) = bind (log i w) (λ a. log_all (suc i) ws)

abbrev pub commit : ℕ → Prog (Unit {0})
commit m = write 0 (word_line m)

abbrev pub apply : Write → Prog (Unit {0})
apply w = write w.to w.text

unfoldable pub apply_all : List Write → Prog (Unit {0})
apply_all [] = ret tt
apply_all (w ∷ ws) = bind (apply w) (λ a. apply_all ws)

abbrev pub clear : Prog (Unit {0})
clear = write 0 (word_line 0)

-- the same by what is logged
abbrev pub reapply : ℕ → Prog (Unit {0})
reapply i = ask (read (1 + 2 * i)) (λ k. ask (read (2 + 2 * i)) (λ p. write (word k) p))

unfoldable pub reapply_all : ℕ → ℕ → Prog (Unit {0})
reapply_all i zero = ret tt
reapply_all i (suc m) = bind (reapply i) (λ a. reapply_all (suc i) m)

unfoldable pub batch : List Write → Prog (Unit {0})
batch ws = bind (log_all 0 ws) (λ a. bind (commit (length ws)) (λ b. bind (apply_all ws) (λ c. clear)))

unfoldable pub recover_so : ℕ → Prog (Unit {0})
recover_so zero = ret tt
recover_so (suc m) = bind (reapply_all 0 (suc m)) (λ a. clear)

abbrev pub recover : Prog (Unit {0})
recover = ask (read 0) (λ l. recover_so (word l))

-- what of the lines as they are read doesn't depend on those before `last`: what is derived
abbrev pub Stable : Layout → (List Line → Type 0) → Type 0
Stable Y S = (ls : List Line) (k : ℕ) (p : Line) → k < Y.last → S ls → S (set_line ls k p)

abbrev pub Derived : Layout → (ℕ → Line) → List Line → Type 0
Derived Y E ls = (k : ℕ) → Y.last ≤ k → line_at ls k ≡ E k

-- afterwards P holds whatever stops, and S of what is read; so many lines were used and nothing was shown
abbrev pub After : {A : Type 0} → (List Line → Type 0) → (List Line → Type 0) → List (List ℕ) → ℕ → A → At → Type 0
After S P ss v a s = (d : Device) × (s ≡ at d ss v) × Is S P d
