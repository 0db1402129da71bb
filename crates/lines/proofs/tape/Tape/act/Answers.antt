use Rattle.std.proofs.Common.{refl}
use Rattle.lines.proofs.Tapes.{left, ends, ask_goes, ask_stops}
use Rattle.lines.proofs.tape.Tape.act.Goals as goal

pub returns-in_err-answer : goal.returns-in_err-answer
returns-in_err-answer c = left (λ a. a) _ _ _ _ c.from_residual.ensures.1 (ask_stops _ _ _ _ c.in_err-answer.ensures)

pub returns : goal.returns
returns c = ask_goes _ _ _ _ _ _ c.in_ok-answer.ensures (ends _ refl)
