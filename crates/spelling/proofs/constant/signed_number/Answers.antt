use Rattle.plain.specs.Read.{only}
use Rattle.spelling.proofs.constant.signed_number.Goals as goal

pub returns-in_err-found : goal.returns-in_err-found
unfolding only
returns-in_err-found c = rw (c.from_residual-in_err-found.ensures, c.in_ok-below_zero.ensures, c.in_ok-millionths.ensures, c.in_err-found.ensures)

pub returns : goal.returns
unfolding only
returns c = rw (c.in_ok-below_zero.ensures, c.in_ok-millionths.ensures, c.in_ok-found.ensures.0, c.in_ok-found.ensures.1)
