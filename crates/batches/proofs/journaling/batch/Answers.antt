use Rattle.lines.proofs.Tapes.{left}
use Rattle.batches.proofs.Runs.{batch_stops, batch_logged_stops, batch_committed_stops, batch_goes}
use Rattle.batches.proofs.journaling.batch.Goals as goal

pub returns-in_err-log_entries : goal.returns-in_err-log_entries
returns-in_err-log_entries c = left (λ a. a) _ _ _ _ c.from_residual.ensures.1 (batch_stops c.args.writes.now _ _ c.in_err-log_entries.ensures)

pub returns-in_err-commit : goal.returns-in_err-commit
returns-in_err-commit c =
    left (λ a. a) _ _ _ _ c.from_residual-in_err-commit.ensures.1 (batch_logged_stops c.args.writes.now _ _ c.in_ok-log_entries.ensures _ c.in_err-commit.ensures)

pub returns-in_err-apply_entries : goal.returns-in_err-apply_entries
returns-in_err-apply_entries c =
    left (λ a. a) _ _ _ _ c.from_residual-in_err-apply_entries.ensures.1
    (batch_committed_stops c.args.writes.now _ _ c.in_ok-log_entries.ensures _ c.in_ok-commit.ensures _ c.in_err-apply_entries.ensures)

pub returns : goal.returns
returns c =
    batch_goes c.args.writes.now _ _ c.in_ok-log_entries.ensures _ c.in_ok-commit.ensures _ _ c.in_ok-apply_entries.ensures c.clear.ensures
