use Rattle.std.proofs.Common.{length, vec_items, sym, ap, ◌∙◌}
use Rattle.plain.specs.Device.{set_line, all_stored}
use Rattle.plain.proofs.Stops.{length_set}
use Rattle.device.specs.Stores.{stores_of}
use Rattle.device.proofs.Seen.{lent_back, seen_more}
use Rattle.device.proofs.memory.Device.store.Goals as goal

pub invariant_of-self-2 : goal.invariant_of-self-2
invariant_of-self-2 c =
    let ls = vec_items c.args.self.now.lines in record {
      seen_is = lent_back _ _ _ (ap length c.put.ensures ∙ (length_set _ _ _ ∙ ap length c.deref_mut.ensures.value)) c.args.self.now.seen.ok.0
          ∙ (c.put.ensures ∙ (ap (λ ls. set_line ls c.args.k c.args.line) (c.deref_mut.ensures.value ∙ c.args.self.now.seen_is)
          ∙ sym (ap (λ ws. all_stored ls (stores_of ws)) c.in_ok-push.ensures.items ∙ seen_more ls _ _)));
    }
