use Rattle.std.proofs.Common.{sym}
use Rattle.device.proofs.Seen.{set_is_line, set_past}
use Rattle.device.proofs.acts.put.Goals as goal

pub returns-then-i-lines : goal.returns-then-i-lines
returns-then-i-lines c = set_is_line _ _ _

pub returns-else-i-lines : goal.returns-else-i-lines
returns-else-i-lines c = sym (set_past _ _ _ c.if-i-lines.false)
