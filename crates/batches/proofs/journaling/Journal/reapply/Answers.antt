use Rattle.std.proofs.Common.{sym, refl}
use Rattle.lines.proofs.Tapes.{left, ends}
use Rattle.batches.proofs.Runs.{reapply_stops, reapply_stops_then, reapply_goes}
use Rattle.batches.proofs.journaling.Journal.reapply.Goals as goal

pub returns-in_err-read : goal.returns-in_err-read
returns-in_err-read c = left (λ a. a) _ _ _ _ c.from_residual.ensures.1 (reapply_stops _ _ _ _ _ c.target_line.ensures _ c.in_err-read.ensures)

pub returns-in_err-content : goal.returns-in_err-content
returns-in_err-content c =
    left (λ a. a) _ _ _ _ c.from_residual-in_err-content.ensures.1
    (reapply_stops_then _ _ _ _ _ c.target_line.ensures _ _ _ c.content_line.ensures c.in_ok-read.ensures _ c.in_err-content.ensures)

pub returns-then-not-is_durable : goal.returns-then-not-is_durable
returns-then-not-is_durable c =
    reapply_goes _ _ _ _ _ c.target_line.ensures _ _ _ c.content_line.ensures c.in_ok-read.ensures _ _ _ _ _ c.in_ok-content.ensures c.number-target.ensures
    (sym c.if-not-is_durable.ensures) (ends _ refl)

pub returns : goal.returns
returns c =
    reapply_goes _ _ _ _ _ c.target_line.ensures _ _ _ c.content_line.ensures c.in_ok-read.ensures _ _ _ _ _ c.in_ok-content.ensures c.number-target.ensures
    (sym c.if-not-is_durable.ensures) c.write_line.ensures
