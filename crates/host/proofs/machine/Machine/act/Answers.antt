use Rattle.std.proofs.Common.{vec_items}
use Rattle.events.specs.Events.{heard}
use Rattle.device.specs.Model.{device_of}
use Rattle.host.proofs.Carries.{acts, few_kinds}
use Rattle.host.proofs.machine.Machine.act.Goals as goal

pub returns : goal.returns
returns c =
    rw (acts (device_of c.args.self.now.device) c.kind.result _ _ (heard c.args.event) (vec_items c.args.self.now.memory) _ _ (vec_items c.args.self.now.row) _ _ _ _ (rw c.kind.ensures (few_kinds c.args.event)) (rw c.kind.ensures c.bytes.ensures.back)
    c.args.self.now.memory.ok.0 c.args.self.now.sizes.0 c.args.self.now.row.ok.0 c.args.self.now.sizes.1
    c.deref_mut.ensures.value c.deref_mut-2.ensures.value c.step-told.auto.memory c.step-told.auto.out c.step-told.ensures) c.carry_out.ensures
