use Rattle.spelling.proofs.Fronts.{too_many, counted_here}
use Rattle.spelling.proofs.bytes.counted.Goals as goal

pub returns-in_err-n : goal.returns-in_err-n
returns-in_err-n c = rw (c.from_residual.ensures, c.in_err-n.ensures)

pub returns-then-n-most : goal.returns-then-n-most
returns-then-n-most c = rw c.in_ok-n.ensures (too_many _ _ _ _ c.if-n-most.true)

pub returns : goal.returns
returns c = rw c.in_ok-n.ensures (counted_here _ _ _ _ _ _ c.if-n-most.false c.split_at_checked.ensures.cases)
