use Rattle.std.proofs.Common.{vec_items, ap}
use Rattle.plain.specs.Term.{each}
use Rattle.host.specs.Model.{rows_of, world_of}
use Rattle.host.proofs.Powers.{none_run, all_run}
use Rattle.host.proofs.machine.Machine.run.Goals as goal

pub returns-then-most_acts-eq0 : goal.returns-then-most_acts-eq0
returns-then-most_acts-eq0 c = none_run _ _ _ _ c.if-most_acts-eq0.true (ap (each vec_items) c.new-shown.ensures.items)

pub returns : goal.returns
returns c =
    let a = c.in_ok-first.ensures in
    rw (all_run _ _ (world_of c.act.new.self) _ c.in_ok-first.first (rows_of c.new-shown.result) (rows_of c.act.new.shown) a.0 c.if-most_acts-eq0.false (ap (each vec_items) c.new-shown.ensures.items) a.1 a.2)
    c.go_on.ensures
