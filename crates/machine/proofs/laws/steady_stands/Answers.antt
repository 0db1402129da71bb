use Rattle.machine.proofs.Grows.{steady}
use Rattle.machine.proofs.laws.steady_stands.Goals as goal

pub returns : goal.returns
returns g c = steady g.S.Stages.model
