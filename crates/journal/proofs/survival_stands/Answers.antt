use Rattle.journal.proofs.Holds.{logical_so}
use Rattle.journal.proofs.survival_stands.Goals as goal

pub returns : goal.returns
returns c = logical_so
