use Rattle.std.proofs.Common.{arith}
use Rattle.lines.proofs.Tapes.{left, ask_stops}
use Rattle.batches.proofs.Runs.{committed_none, committed_some}
use Rattle.batches.proofs.journaling.Journal.committed.Goals as goal

pub returns-in_err-read : goal.returns-in_err-read
returns-in_err-read c = left (λ a. a) _ _ _ _ c.from_residual.ensures.1 (ask_stops _ _ _ _ c.in_err-read.ensures)

pub returns-then-entries-from : goal.returns-then-entries-from
returns-then-entries-from c =
    committed_none c.args.self.most_entries _ _ _ c.in_ok-read.ensures c.number-entries.result c.number-entries.ensures (omega arith)

pub returns : goal.returns
returns c =
    committed_some c.args.self.most_entries _ _ _ c.in_ok-read.ensures c.number-entries.result c.number-entries.ensures (omega arith)
