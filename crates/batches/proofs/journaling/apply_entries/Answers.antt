use Rattle.std.proofs.Common.{refl}
use Rattle.lines.proofs.Tapes.{left}
use Rattle.batches.proofs.Runs.{apply_left, apply_turn, apply_done}
use Rattle.batches.proofs.journaling.apply_entries.Goals as goal

pub loop-w-init : goal.loop-w-init
loop-w-init c = refl

pub loop-w-preserved : goal.loop-w-preserved
loop-w-preserved c = apply_turn _ _ _ c.loop-w-test.true _ _ _ c.loop-w.invariant c.in_ok-apply.ensures

pub returns-in_err-apply : goal.returns-in_err-apply
returns-in_err-apply c = left (λ a. a) _ _ _ _ c.from_residual.ensures.1 (apply_left _ _ _ c.loop-w-test.true _ _ _ c.loop-w.invariant c.in_err-apply.ensures)

pub returns : goal.returns
returns c = apply_done _ _ _ _ c.loop-w-test.false c.loop-w.invariant
