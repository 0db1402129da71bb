use Rattle.sheet.proofs.Steps.{refusal_told}
use Rattle.sheet.proofs.refusal.Goals as goal

pub returns-in-Ok : goal.returns-in-Ok
returns-in-Ok c = refusal_told _ _ c.in-Ok.ensures

pub returns-in-Err : goal.returns-in-Err
returns-in-Err c = refusal_told _ _ c.in-Err.ensures
