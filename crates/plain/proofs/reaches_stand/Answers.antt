use Rattle.plain.proofs.Reaching.{in_reaches}
use Rattle.plain.proofs.reaches_stand.Goals as goal

pub returns : goal.returns
returns c = in_reaches
