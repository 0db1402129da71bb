use Rattle.guarded_journal.proofs.Recovery.{recovered_so}
use Rattle.guarded_journal.proofs.recovery_stands.Goals as goal

pub returns : goal.returns
returns c = recovered_so
