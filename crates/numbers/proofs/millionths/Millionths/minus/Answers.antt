use Rattle.numbers.proofs.Signs.{minus_so}
use Rattle.numbers.proofs.millionths.Millionths.minus.Goals as goal

pub returns : goal.returns
returns c = minus_so c.count.result c.count-2.result _ _ _ (record { sfits = c.count.type_inv }) (record { sfits = c.count-2.type_inv }) c.count.ensures c.count-2.ensures c.within.ensures
