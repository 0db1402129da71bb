use Rattle.std.proofs.Common.{sym, ◌∙◌}
use Rattle.plain.specs.Device.{all_stored}
use Rattle.device.proofs.memory.Device.fresh.Goals as goal

pub invariant_of-result : goal.invariant_of-result
unfolding all_stored
invariant_of-result c = record { seen_is = rw c.new.ensures.items (c.in_ok-zeros-2.ensures ∙ sym c.in_ok-zeros.ensures) }
