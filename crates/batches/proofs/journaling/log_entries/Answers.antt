use Rattle.std.proofs.Common.{refl}
use Rattle.lines.proofs.Tapes.{left}
use Rattle.batches.proofs.Runs.{log_left, log_turn, log_done}
use Rattle.batches.proofs.journaling.log_entries.Goals as goal

pub loop-i-init : goal.loop-i-init
loop-i-init c = refl

pub loop-i-preserved : goal.loop-i-preserved
loop-i-preserved c = log_turn _ _ _ c.loop-i-test.true _ _ _ c.loop-i.invariant c.in_ok-log.ensures

pub returns-in_err-log : goal.returns-in_err-log
returns-in_err-log c = left (λ a. a) _ _ _ _ c.from_residual.ensures.1 (log_left _ _ _ c.loop-i-test.true _ _ _ c.loop-i.invariant c.in_err-log.ensures)

pub returns : goal.returns
returns c = log_done _ _ _ _ c.loop-i-test.false c.loop-i.invariant
