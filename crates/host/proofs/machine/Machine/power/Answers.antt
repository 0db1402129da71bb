use Rattle.std.proofs.Common.{replicate, ap, ◌∙◌}
use Rattle.device.specs.Model.{device_of}
use Rattle.host.proofs.Powers.{woken_so}
use Rattle.host.proofs.machine.Machine.power.Goals as goal

pub returns : goal.returns
returns c =
    rw (woken_so c.args.most_acts _ (device_of c.args.self.now.device) _ _
    (c.fill.ensures.items (λ y h. h) ∙ ap (λ n. replicate n 0) c.args.self.now.sizes.0) c.count-lines.ensures) c.run.ensures
