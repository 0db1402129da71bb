use Rattle.numbers.proofs.Signs.{plus_so}
use Rattle.numbers.proofs.millionths.Millionths.plus.Goals as goal

pub returns : goal.returns
returns c = plus_so c.count.result c.count-2.result _ _ _ (record { sfits = c.count.type_inv }) (record { sfits = c.count-2.type_inv }) c.count.ensures c.count-2.ensures c.within.ensures
