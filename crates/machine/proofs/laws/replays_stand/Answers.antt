use Rattle.machine.proofs.Replays.{replays}
use Rattle.machine.proofs.laws.replays_stand.Goals as goal

pub returns : goal.returns
returns g c = replays g.S.Stages.model
