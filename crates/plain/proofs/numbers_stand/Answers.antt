use Rattle.plain.proofs.Numbers.{numbers_right}
use Rattle.plain.proofs.numbers_stand.Goals as goal

pub returns : goal.returns
returns c = numbers_right
