-- What an engine's stages are, as programs: what the trait of stages promises of the code. Assumes nothing: these are definitions.
use Rattle.std.specs.Prelude.{ℕ, List}
use Rattle.programs.specs.Prog.{Prog}
use Rattle.machine.specs.declared.stages.Move.{Move}

-- a stage depends on registers, the command's words and the directory alone, and comes out with a move. A deed is what a move does to the directory
pub record Model (D : Type 0) : Type 0 where
  pub boot : ℕ → List ℕ
  pub hear : List ℕ → List ℕ → List ℕ → Move D
  pub stage : List ℕ → List ℕ → List ℕ → Prog (Move D)
  pub apply : D → List ℕ → List ℕ
