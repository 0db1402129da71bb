use Rattle.plain.proofs.Example.{worked_right}
use Rattle.plain.proofs.example_stands.Goals as goal

pub returns : goal.returns
returns c = worked_right
