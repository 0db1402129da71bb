use Rattle.plain.proofs.FixedPoint.{rounds_enough}
use Rattle.plain.proofs.rounds_stand.Goals as goal

pub returns : goal.returns
returns c = rounds_enough
