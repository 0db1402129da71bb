use Rattle.std.proofs.Common.{sym, ◌∙◌}
use Rattle.std.proofs.lemmas.Slice.Zip.{Zip-more, either_empty_from_Zip}
use Rattle.device.proofs.Seen.{arrived_more, lost_more, left_all}
use Rattle.device.proofs.acts.write_back.Goals as goal

pub loop-store-preserved-then-there-eq-ARRIVED : goal.loop-store-preserved-then-there-eq-ARRIVED
loop-store-preserved-then-there-eq-ARRIVED c =
    let t = Zip-more c.loop-store.store-iterator c.next.new.self _ _ c.in-Some.is c.next.ensures.steps in
    arrived_more _ _ _ _ _ _ _ _ t.0 t.1 c.if-there-eq-ARRIVED.true c.put.ensures ∙ c.loop-store.invariant

pub loop-store-preserved : goal.loop-store-preserved
loop-store-preserved c =
    let t = Zip-more c.loop-store.store-iterator c.next.new.self _ _ c.in-Some.is c.next.ensures.steps in
    lost_more _ _ _ _ _ _ _ t.0 t.1 c.if-there-eq-ARRIVED.false ∙ c.loop-store.invariant

pub returns : goal.returns
returns c = sym (left_all _ _ _ (either_empty_from_Zip c.loop-store.store-iterator c.next.new.self _ c.in-None.is c.next.ensures.steps)) ∙ c.loop-store.invariant
