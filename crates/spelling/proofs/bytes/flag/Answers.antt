use Rattle.std.proofs.Common.{arith}
use Rattle.spelling.proofs.Fronts.{flag_none}
use Rattle.spelling.proofs.bytes.flag.Goals as goal

pub returns-in_err-byte : goal.returns-in_err-byte
returns-in_err-byte c = rw (c.from_residual.ensures, c.in_err-byte.ensures)

pub returns-in-0 : goal.returns-in-0
returns-in-0 c = rw (c.in_ok-byte.ensures, c.in-0.is)

pub returns-in-1 : goal.returns-in-1
returns-in-1 c = rw (c.in_ok-byte.ensures, c.in-1.is)

pub returns-in_default : goal.returns-in_default
returns-in_default c = rw c.in_ok-byte.ensures (flag_none c.in_ok-byte.byte c.in_ok-byte.rest.now (omega arith) (omega arith))
