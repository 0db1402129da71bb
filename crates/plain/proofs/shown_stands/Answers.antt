use Rattle.plain.proofs.FixedPoint.{shown_fixed}
use Rattle.plain.proofs.shown_stands.Goals as goal

pub returns : goal.returns
returns c = shown_fixed
