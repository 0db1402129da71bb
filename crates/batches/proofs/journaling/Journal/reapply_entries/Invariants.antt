use Rattle.std.proofs.Common.{◌≡◌, ◌-◌}
use Rattle.programs.specs.Prog.{replay}
use Rattle.guarded_journal.specs.Programs.{reapply_all}
use Rattle.lines.specs.Told.{rest}
use Rattle.batches.proofs.journaling.Journal.reapply_entries.Given as goal

abbrev pub invariant-loop-i : goal.invariant-loop-i
invariant-loop-i l = replay (reapply_all l.self.most_entries l.self.last l.i (l.entries - l.i)) (rest l.tape) ≡ replay (reapply_all l.self.most_entries l.self.last 0 l.entries) (rest l.initial.tape)
