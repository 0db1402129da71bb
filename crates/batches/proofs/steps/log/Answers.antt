use Rattle.lines.proofs.Tapes.{left}
use Rattle.batches.specs.Writes.{write_of}
use Rattle.batches.proofs.Runs.{log_goes, log_stops}
use Rattle.batches.proofs.steps.log.Goals as goal

pub returns-in_err-write_line : goal.returns-in_err-write_line
returns-in_err-write_line c =
    left (λ a. a) _ _ _ _ c.from_residual.ensures.1 (log_stops c.args.entry _ (write_of c.args.w) _ _ c.target_line.ensures c.with_number.ensures _ c.in_err-write_line.ensures)

pub returns : goal.returns
returns c =
    log_goes c.args.entry _ (write_of c.args.w) _ _ c.target_line.ensures c.with_number.ensures _ _ _ c.content_line.ensures c.in_ok-write_line.ensures c.write_line-2.ensures
