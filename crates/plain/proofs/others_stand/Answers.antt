use Rattle.plain.proofs.Changes.{others_same}
use Rattle.plain.proofs.others_stand.Goals as goal

pub returns : goal.returns
returns c = others_same
