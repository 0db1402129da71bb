use Rattle.lines.proofs.Tapes.{left}
use Rattle.batches.proofs.Runs.{write_goes, write_stops}
use Rattle.batches.proofs.steps.write_line.Goals as goal

pub returns-in_err-store : goal.returns-in_err-store
returns-in_err-store c = left (λ a. a) _ _ _ _ c.from_residual.ensures.1 (write_stops _ _ _ _ c.in_err-store.ensures)

pub returns : goal.returns
returns c = write_goes _ _ _ _ _ c.in_ok-store.ensures c.settle.ensures
