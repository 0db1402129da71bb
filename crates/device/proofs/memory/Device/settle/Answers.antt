use Rattle.std.proofs.Common.{length, rules, sym, ap, ◌∙◌}
use Rattle.device.proofs.Seen.{seen_long, others_retained, settled_so, settled_seen, lines_then}
use Rattle.device.proofs.memory.Device.settle.Goals as goal

pub bring-requires : goal.bring-requires
bring-requires c =
    ap length c.deref_mut.ensures.value ∙ (sym (seen_long _ _) ∙ sym (ap length (c.deref.ensures.value ∙ c.args.self.now.seen_is)))

pub invariant_of-self : goal.invariant_of-self
invariant_of-self c = record {
  seen_is = settled_seen _ _ _ _ _ _ c.args.self.now.seen_is
      (lines_then _ _ _ _ _ _ _ _ c.args.self.now.lines.ok.0 c.deref_mut.ensures.value c.deref.ensures.value c.args.self.now.seen_is c.bring.ensures)
      (others_retained _ _ _ (λ w b f h. search rules) _ _ c.retain.ensures.filtered);
}

pub returns : goal.returns
returns c =
    settled_so _ _ _ _ _
    (lines_then _ _ _ _ _ _ _ _ c.args.self.now.lines.ok.0 c.deref_mut.ensures.value c.deref.ensures.value c.args.self.now.seen_is c.bring.ensures)
    (others_retained _ _ _ (λ w b f h. search rules) _ _ c.retain.ensures.filtered)
