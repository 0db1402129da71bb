use Rattle.plain.proofs.WorthLocal.{worth_local}
use Rattle.plain.proofs.worth_stands.Goals as goal

pub returns : goal.returns
returns c = worth_local
