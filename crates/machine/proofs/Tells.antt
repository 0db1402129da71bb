-- What a step of the engine comes to, way by way: the facts that the proofs of the step's parts cite.
use Rattle.std.proofs.Common.{◌≡◌, ℕ, List, [], ◌∷◌, length, refl, sym, ap, ◌∙◌, ap₂}
use Rattle.std.proofs.lemmas.Bool.{eq-eqb}
use Rattle.plain.specs.Run.{done, refused, Event, Step, next}
use Rattle.events.specs.declared.told.Told.{Told}
use Rattle.events.specs.declared.told.Told.TheVariants.{Done, No}
use Rattle.events.specs.Entry.{ActTold, StepTold}
use Rattle.lines.proofs.Words.{blank_words}
use Rattle.programs.specs.Prog.{Out}
use Rattle.machine.specs.declared.end.End.{End}
use Rattle.machine.specs.declared.stages.Move.{Move}
use Rattle.machine.specs.Memory.{pushed}
use Rattle.machine.specs.Model.{Model}
use Rattle.machine.specs.Engine.{run_in, applied, opening, begun, ended, moved, turn, answered, told, engine_of}
use Rattle.plain.proofs.Many.{length_many}

-- what is told of the same step
pub as_told : (z y : Step) (r : Told) (m out out₁ : List ℕ) → z ≡ y → StepTold y r m out out₁ → StepTold z r m out out₁
as_told z y r m out out₁ e s = rw e s

pub no_told : (k : ℕ) (out : List ℕ) → ActTold (refused k) (No k) out out
unfolding ActTold
no_told k out = (refl, refl)

pub done_told : (out : List ℕ) → ActTold done Done out out
unfolding ActTold
done_told out = (refl, refl)

module _ {D : Type 0} (M : Model D) where
  pub length_start : length (engine_of M).start ≡ 262144
  unfolding engine_of
  length_start = length_many 262144 0

  -- a stage begins
  pub begun_so : (m : List ℕ) (o : Out (Move D)) → run_in M m ≡ o → begun M m ≡ opening M m o
  unfolding begun
  begun_so m o e = ap (λ x. opening M m x) e

  -- a stage has come out
  pub moved_so : (m m₁ : List ℕ) (v : Move D) (e : End) (z : Step) → m₁ ≡ applied M m v → v.end ≡ e → ended M m₁ e ≡ z → moved M m v ≡ z
  unfolding moved
  moved_so m m₁ v e z a f s = ap₂ (λ n i. ended M n i) (sym a) f ∙ s

  -- a stage goes on
  pub answered_so : (m m₁ : List ℕ) (o : Out (Move D)) (z : Step) → m₁ ≡ m → run_in M m₁ ≡ o → turn M m₁ o ≡ z → answered M m ≡ z
  unfolding answered
  answered_so m m₁ o z a e s = ap (λ n. turn M n (run_in M n)) (sym a) ∙ (ap (λ x. turn M m₁ x) e ∙ s)

  -- the last act is done
  pub nothing_so : (m : List ℕ) (z : Step) → answered M (pushed m (0 ∷ 0 ∷ 0 ∷ 0 ∷ 0 ∷ 0 ∷ 0 ∷ 0 ∷ [])) ≡ z → told M m next ≡ z
  nothing_so m z s = ap (λ ws. answered M (pushed m ws)) blank_words ∙ s

  -- a memory of the engine's size is stepped
  pub step_is : (m : List ℕ) (e : Event) → length m ≡ 262144 → (engine_of M).step m e ≡ told M m e
  unfolding engine_of
  step_is m e h = rw (eq-eqb (length m) 262144 h)

  pub told_step : (m n m₁ : List ℕ) (e : Event) (r : Told) (out out₁ : List ℕ) → length m ≡ 262144 → n ≡ m → StepTold (told M n e) r m₁ out out₁
      → StepTold ((engine_of M).step m e) r m₁ out out₁
  told_step m n m₁ e r out out₁ h q s = rw (step_is m e h, ← q) s
