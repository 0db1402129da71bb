use Rattle.lines.proofs.Tapes.{left}
use Rattle.batches.proofs.Runs.{recover_stops, recover_none, recover_some_stops, recover_some}
use Rattle.batches.proofs.journaling.Journal.recover.Goals as goal

pub returns-in_err-entries : goal.returns-in_err-entries
returns-in_err-entries c = left (λ a. a) _ _ _ _ c.from_residual.ensures.1 (recover_stops _ _ _ _ c.in_err-entries.ensures)

pub returns-then-entries-eq0 : goal.returns-then-entries-eq0
returns-then-entries-eq0 c = recover_none _ _ _ _ _ c.in_ok-entries.ensures c.if-entries-eq0.true

pub returns-in_err-reapply_entries : goal.returns-in_err-reapply_entries
returns-in_err-reapply_entries c =
    left (λ a. a) _ _ _ _ c.from_residual-in_err-reapply_entries.ensures.1
    (recover_some_stops _ _ _ _ _ c.in_ok-entries.ensures _ c.if-entries-eq0.false c.in_err-reapply_entries.ensures)

pub returns : goal.returns
returns c = recover_some _ _ _ _ _ c.in_ok-entries.ensures _ _ c.if-entries-eq0.false c.in_ok-reapply_entries.ensures c.clear.ensures
