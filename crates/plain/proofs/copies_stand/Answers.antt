use Rattle.plain.proofs.Copying.{copied_same}
use Rattle.plain.proofs.copies_stand.Goals as goal

pub returns : goal.returns
returns c = copied_same
