use Rattle.std.proofs.Common.{◌≡◌, drop}
use Rattle.programs.specs.Prog.{replay}
use Rattle.journal.specs.Programs.{apply_all}
use Rattle.lines.specs.Told.{rest}
use Rattle.batches.specs.Writes.{writes_of}
use Rattle.batches.proofs.journaling.apply_entries.Given as goal

abbrev pub invariant-loop-w : goal.invariant-loop-w
invariant-loop-w l = replay (apply_all (writes_of (drop l.w-index l.writes))) (rest l.tape) ≡ replay (apply_all (writes_of l.writes)) (rest l.initial.tape)
