use Rattle.std.proofs.Common.{refl}
use Rattle.machine.proofs.Tells.{as_told, nothing_so}
use Rattle.machine.proofs.step.tell.Goals as goal

pub returns-in-Next : goal.returns-in-Next
returns-in-Next g c = rw c.in-Next.is (as_told _ _ _ _ _ _ (nothing_so g.S.Stages.model c.args.memory.now _ refl) c.answer-in-Next.ensures)
