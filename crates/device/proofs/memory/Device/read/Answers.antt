use Rattle.std.proofs.Common.{◌∙◌}
use Rattle.device.proofs.Seen.{line_got}
use Rattle.device.proofs.memory.Device.read.Goals as goal

pub returns : goal.returns
returns c =
    let e = c.deref.ensures.value ∙ c.args.self.now.seen_is in
    rw (c.copied.ensures, ← e) (line_got _ _ _ c.get.ensures.lookup.3)
