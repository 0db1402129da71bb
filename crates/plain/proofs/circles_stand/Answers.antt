use Rattle.plain.proofs.Reaching.{circles_wrong}
use Rattle.plain.proofs.circles_stand.Goals as goal

pub returns : goal.returns
returns c = circles_wrong
