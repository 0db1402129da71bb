use Rattle.std.proofs.Common.{◌≡◌, ◌-◌, arith}
use Rattle.lines.proofs.Tapes.{left}
use Rattle.batches.proofs.Runs.{redo_left, redo_turn, redo_done}
use Rattle.batches.proofs.journaling.Journal.reapply_entries.Goals as goal

pub loop-i-init : goal.loop-i-init
loop-i-init c = let z : c.args.entries - 0 ≡ c.args.entries = omega arith in rw z

pub loop-i-preserved : goal.loop-i-preserved
loop-i-preserved c = redo_turn _ _ _ _ c.loop-i-test.true _ _ c.loop-i.invariant _ c.in_ok-reapply.ensures

pub returns-in_err-reapply : goal.returns-in_err-reapply
returns-in_err-reapply c =
    left (λ a. a) _ _ _ _ c.from_residual.ensures.1 (redo_left _ _ _ _ c.loop-i-test.true _ _ c.loop-i.invariant _ c.in_err-reapply.ensures)

pub returns : goal.returns
returns c = redo_done _ _ _ _ _ _ c.loop-i-test.false c.loop-i.invariant
