use Rattle.lines.proofs.Words.{with_number}
use Rattle.lines.proofs.line.Line.with_number.Goals as goal

pub returns : goal.returns
returns c = with_number c.args.n
