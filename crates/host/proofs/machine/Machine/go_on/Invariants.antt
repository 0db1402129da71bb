use Rattle.std.proofs.Common.{◌≡◌, ◌-◌, ◌≤◌, []}
use Rattle.sheet.specs.Entry.{own}
use Rattle.host.specs.Acts.{carried, out_of}
use Rattle.host.specs.Model.{rows_of, world_of}
use Rattle.host.proofs.machine.Machine.go_on.Given as goal

abbrev pub invariant-loop : goal.invariant-loop
invariant-loop l = record {
  few : l.lines_used ≤ l.counter;
  so_far : carried (l.more_acts - l.counter) own (rows_of l.shown) l.lines_used (out_of l.after (world_of l.self) []) ≡ carried l.more_acts own (rows_of l.initial.shown) 0 (out_of l.initial.after (world_of l.initial.self) []);
}
