use Rattle.std.proofs.Common.{◌∙◌}
use Rattle.machine.specs.Engine.{applied}
use Rattle.machine.proofs.memory.apply.Goals as goal

pub returns : goal.returns
unfolding applied
returns g c = c.save.ensures ∙ rw c.change.ensures
