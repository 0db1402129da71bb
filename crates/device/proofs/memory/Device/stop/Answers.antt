use Rattle.std.proofs.Common.{length, sym, ap, ◌∙◌}
use Rattle.plain.proofs.Stops.{stop_length}
use Rattle.device.specs.Model.{device_of}
use Rattle.device.proofs.Seen.{seen_long, stopped_seen, stop_then}
use Rattle.device.proofs.memory.Device.stop.Goals as goal

pub copy_from_slice-requires : goal.copy_from_slice-requires
copy_from_slice-requires c =
    c.args.self.now.seen.ok.0 ∙ (ap length c.args.self.now.seen_is ∙ (seen_long _ _
    ∙ sym (ap length (c.deref-2.ensures.value ∙ stop_then _ _ _ _ _ _ _ c.args.self.now.lines.ok.0 c.deref_mut.ensures.value c.deref.ensures.value c.write_back.ensures)
    ∙ stop_length (device_of c.args.self.now) c.args.arrived.now)))

pub invariant_of-self : goal.invariant_of-self
invariant_of-self c = record { seen_is = stopped_seen _ _ _ (c.copy_from_slice.ensures.items ∙ c.deref-2.ensures.value) c.clear.ensures.items }
