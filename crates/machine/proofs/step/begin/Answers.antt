use Rattle.std.proofs.Common.{refl}
use Rattle.machine.proofs.Tells.{as_told, no_told, begun_so}
use Rattle.machine.proofs.step.begin.Goals as goal

pub returns-in-Err : goal.returns-in-Err
returns-in-Err g c = as_told _ _ _ _ _ _ (begun_so g.S.Stages.model _ _ c.in-Err.ensures.1) (refl, c.tell_act.ensures)

pub returns-in-Ok : goal.returns-in-Ok
returns-in-Ok g c = as_told _ _ _ _ _ _ (begun_so g.S.Stages.model _ _ c.in-Ok.ensures.1) (refl, no_told 0 _)
