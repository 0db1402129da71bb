use Rattle.std.proofs.Common.{[], sym, ap, ◌∙◌, arith}
use Rattle.plain.specs.Device.{set_line}
use Rattle.device.proofs.Seen.{set_past, line_get_or}
use Rattle.device.proofs.acts.bring.Goals as goal

pub returns-in-Some : goal.returns-in-Some
returns-in-Some c = c.put.ensures ∙ ap (set_line c.args.lines.now c.args.k) (c.in-Some.ensures.lookup.3.1 [] ∙ line_get_or c.args.seen.now c.args.k)

pub returns-in_default : goal.returns-in_default
returns-in_default c = sym (set_past _ _ _ (let h = c.in_default.ensures.lookup.3 in omega arith))
