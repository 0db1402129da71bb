-- Programs over lines: acts and what they are answered; what a program comes to against a tape of answers. Assumes nothing: these are definitions.
use Rattle.std.specs.Prelude.{◌≡◌, ℕ, zero, suc, true, List, [], ◌∷◌}
use Rattle.plain.specs.Device.{Line, a_line}
use Rattle.plain.specs.Run.{Act}

pub data Prog (A : Type 0) : Type 0 where
  ret : A → Prog A
  ask : Act → (Line → Prog A) → Prog A

unfoldable pub bind : {A B : Type 0} → Prog A → (A → Prog B) → Prog B
bind (ret a) f = f a
bind (ask x k) f = ask x (λ l. bind (k l) f)

-- against a tape: it came out, with what is left of the tape; or it wants an act done
pub data Out (A : Type 0) : Type 0 where
  came : A → List Line → Out A
  wants : Act → Out A

unfoldable pub replay : {A : Type 0} → Prog A → List Line → Out A
replay (ret a) t = came a t
replay (ask x k) [] = wants x
replay (ask x k) (l ∷ t) = replay (k l) t

unfoldable pub then_out : {A B : Type 0} → Out A → (A → Prog B) → Out B
then_out (came a t) f = replay (f a) t
then_out (wants x) f = wants x

-- what is left of a program after the answers of a tape
unfoldable pub feed : {A : Type 0} → Prog A → List Line → Prog A
feed (ret a) t = ret a
feed (ask x k) [] = ask x k
feed (ask x k) (l ∷ t) = feed (k l) t

-- at most so many acts, whatever lines are answered; what it comes out with
unfoldable pub Short : {A : Type 0} → ℕ → Prog A → (A → Type 0) → Type 0
Short n (ret a) P = P a
Short zero (ask x k) P = ⊥
Short (suc n) (ask x k) P = (l : Line) → a_line l ≡ true → Short n (k l) P

unfoldable pub Opens : {A : Type 0} → Prog A → Type 0
Opens (ret a) = ⊥
Opens (ask x k) = Unit {0}

unfoldable pub Lined : List Line → Type 0
Lined [] = Unit {0}
Lined (l ∷ t) = (a_line l ≡ true) × Lined t
