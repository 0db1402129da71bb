use Rattle.plain.specs.Read.{one}
use Rattle.spelling.proofs.Fronts.{one_none}
use Rattle.spelling.proofs.bytes.one.Goals as goal

pub returns-in_err-first : goal.returns-in_err-first
returns-in_err-first c = rw c.from_residual.ensures (one_none _ c.in_err-first.ensures.cases)

pub returns : goal.returns
unfolding one
returns c = rw c.in_ok-first.ensures.cases.0
