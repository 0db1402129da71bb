use Rattle.plain.specs.Read.{read_ref}
use Rattle.spelling.proofs.place.Reference.read.Goals as goal

pub returns-in_err-place : goal.returns-in_err-place
unfolding read_ref
returns-in_err-place c = rw (c.from_residual.ensures, c.in_err-place.ensures)

pub returns-in_err-fix_col : goal.returns-in_err-fix_col
unfolding read_ref
returns-in_err-fix_col c = rw (c.from_residual-in_err-fix_col.ensures, c.in_ok-place.ensures, c.in_err-fix_col.ensures)

pub returns-in_err-fix_row : goal.returns-in_err-fix_row
unfolding read_ref
returns-in_err-fix_row c = rw (c.from_residual-in_err-fix_row.ensures, c.in_ok-place.ensures, c.in_ok-fix_col.ensures, c.in_err-fix_row.ensures)

pub returns : goal.returns
unfolding read_ref
returns c = rw (c.in_ok-place.ensures, c.in_ok-fix_col.ensures, c.in_ok-fix_row.ensures)
