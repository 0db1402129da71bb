use Rattle.journal.proofs.Holds.{whole_or_not}
use Rattle.journal.proofs.batches_stand.Goals as goal

pub returns : goal.returns
returns c = whole_or_not
