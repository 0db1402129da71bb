use Rattle.plain.proofs.Copying.{copied_on}
use Rattle.plain.proofs.copies_go_on.Goals as goal

pub returns : goal.returns
returns c = copied_on
