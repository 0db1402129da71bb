use Rattle.plain.proofs.Stops.{settled_stays}
use Rattle.plain.proofs.settled_stands.Goals as goal

pub returns : goal.returns
returns c = settled_stays
