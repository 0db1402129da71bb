use Rattle.programs.proofs.Rightly.{right_always}
use Rattle.programs.proofs.right_stands.Goals as goal

pub returns : goal.returns
returns g c = right_always g.B.Beside.bundle
