use Rattle.std.proofs.Common.{refl}
use Rattle.machine.proofs.Tells.{as_told, answered_so}
use Rattle.machine.proofs.step.answer.Goals as goal

pub returns-in-Err : goal.returns-in-Err
returns-in-Err g c = as_told _ _ _ _ _ _ (answered_so g.S.Stages.model _ _ _ _ c.push.ensures c.in-Err.ensures.1 refl) (refl, c.tell_act.ensures)

pub returns-in-Ok : goal.returns-in-Ok
returns-in-Ok g c = as_told _ _ _ _ _ _ (answered_so g.S.Stages.model _ _ _ _ c.push.ensures c.in-Ok.ensures.1 refl) c.turn.ensures
