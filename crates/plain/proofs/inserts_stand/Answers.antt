use Rattle.plain.proofs.Inserting.{in_and_out}
use Rattle.plain.proofs.inserts_stand.Goals as goal

pub returns : goal.returns
returns c = in_and_out
