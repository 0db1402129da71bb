use Rattle.std.proofs.Common.{refl}
use Rattle.machine.proofs.Tells.{as_told, no_told, done_told, moved_so}
use Rattle.machine.proofs.step.turn.Goals as goal

pub returns-in-Go : goal.returns-in-Go
returns-in-Go g c = as_told _ _ _ _ _ _ (moved_so g.S.Stages.model _ _ _ _ _ c.apply.ensures c.in-Go.is refl) c.begin.ensures

pub returns-in-Done : goal.returns-in-Done
returns-in-Done g c = as_told _ _ _ _ _ _ (moved_so g.S.Stages.model _ _ _ _ _ c.apply.ensures c.in-Done.is refl) (refl, done_told _)

pub returns-in-Refused : goal.returns-in-Refused
returns-in-Refused g c = as_told _ _ _ _ _ _ (moved_so g.S.Stages.model _ _ _ _ _ c.apply.ensures c.in-Refused.is refl) (refl, no_told _ _)
