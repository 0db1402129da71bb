use Rattle.journal.proofs.Holds.{recovered_so}
use Rattle.journal.proofs.recovery_stands.Goals as goal

pub returns : goal.returns
returns c = recovered_so
