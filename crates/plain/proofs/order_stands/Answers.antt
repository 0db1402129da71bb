use Rattle.plain.proofs.Numbers.{values_ordered}
use Rattle.plain.proofs.order_stands.Goals as goal

pub returns : goal.returns
returns c = values_ordered
