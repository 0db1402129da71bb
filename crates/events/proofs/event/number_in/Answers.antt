use Rattle.std.proofs.Common.{sym, ◌∙◌}
use Rattle.events.proofs.Numbers.{pow_more, byte_small, from_more}
use Rattle.events.proofs.event.number_in.Goals as goal

pub loop-b-preserved : goal.loop-b-preserved
loop-b-preserved c =
    let b = byte_small c.args.bytes.now _ _ _ c.from.ensures c.loop-b-test.true (c.type_inv.bytes c.loop-b.b-index) in (
      pow_more c.loop-b.b-index c.loop-b.n c.from.result c.loop-b.invariant.0 b,
      rw c.from.ensures (sym (from_more _ c.loop-b.b-index c.loop-b.n c.loop-b-test.true)) ∙ c.loop-b.invariant.1,
    )
