use Rattle.std.proofs.Common.{◌≡◌, ◌≤◌, length, ap, ◌∙◌, arith, length-take}
use Rattle.plain.specs.Read.{number}
use Rattle.plain.proofs.EightBytes.{number_is, bytes_typed}
use Rattle.spelling.proofs.Fronts.{eight_none, eight_here}
use Rattle.spelling.proofs.bytes.number.Goals as goal

pub returns-in_err-head : goal.returns-in_err-head
returns-in_err-head c = rw c.from_residual.ensures (eight_none _ c.in_err-head.ensures.cases)

pub returns : goal.returns
returns c =
    let h = c.in_ok-head.ensures.cases in
    let l : 8 ≤ length c.args.bytes.now = omega (arith, h.2) in
    let k : length c.in_ok-head.head.now ≡ 8 = rw h.0 (omega (arith, l, length-take 8 c.args.bytes.now)) in
    rw h.1 (eight_here c.args.bytes.now _ l (bytes_typed _ c.type_inv.bytes) (c.from_be_bytes.ensures ∙ number_is _ k ∙ ap number h.0))
