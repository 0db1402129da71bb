use Rattle.formulas.proofs.Telling.{told_right}
use Rattle.formulas.proofs.telling_stands.Goals as goal

pub returns : goal.returns
returns c = told_right
