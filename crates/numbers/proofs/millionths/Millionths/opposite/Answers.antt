use Rattle.numbers.proofs.Signs.{opposite_so}
use Rattle.numbers.proofs.millionths.Millionths.opposite.Goals as goal

pub returns : goal.returns
returns c = opposite_so c.count.result _ _ (record { sfits = c.count.type_inv }) c.count.ensures c.within.ensures
