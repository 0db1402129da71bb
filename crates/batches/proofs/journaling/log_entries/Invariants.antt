use Rattle.std.proofs.Common.{◌≡◌, drop}
use Rattle.programs.specs.Prog.{replay}
use Rattle.journal.specs.Programs.{log_all}
use Rattle.lines.specs.Told.{rest}
use Rattle.batches.specs.Writes.{writes_of}
use Rattle.batches.proofs.journaling.log_entries.Given as goal

abbrev pub invariant-loop-i : goal.invariant-loop-i
invariant-loop-i l = replay (log_all l.i (writes_of (drop l.i l.writes))) (rest l.tape) ≡ replay (log_all 0 (writes_of l.writes)) (rest l.initial.tape)
