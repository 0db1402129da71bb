-- The check finds this alone; it is written out so that the refusal of must-fail/stored-line shows what is false.
use Rattle.std.proofs.Common.{take, ap, ◌∙◌, arith}
use Rattle.host.proofs.Rows.{stores_so}
use Rattle.host.proofs.machine.Machine.store.Goals as goal

pub returns : goal.returns
returns c = stores_so _ _ _ _ _ _ (let h = c.count.ensures in omega arith) c.in_ok-store.ensures (c.copy_from_slice.ensures.after ∙ ap (take 64) c.deref.ensures.value)
