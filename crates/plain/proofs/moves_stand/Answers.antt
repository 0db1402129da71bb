use Rattle.plain.proofs.Moving.{moved_worth}
use Rattle.plain.proofs.moves_stand.Goals as goal

pub returns : goal.returns
returns c = moved_worth
