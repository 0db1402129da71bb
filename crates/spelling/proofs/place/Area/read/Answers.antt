use Rattle.std.proofs.Common.{◌≡◌, true, false, ◌&&◌, leb, arith}
use Rattle.std.proofs.lemmas.Bool.Decides.{nat_tests}
use Rattle.plain.specs.Read.{only}
use Rattle.spelling.proofs.place.Area.read.Goals as goal

pub returns-in_err-first : goal.returns-in_err-first
returns-in_err-first c = rw (c.from_residual.ensures, c.in_err-first.ensures)

pub returns-in_err-last : goal.returns-in_err-last
returns-in_err-last c = rw (c.from_residual-in_err-last.ensures, c.in_ok-first.ensures, c.in_err-last.ensures)

pub returns-then-first-last : goal.returns-then-first-last
unfolding only
returns-then-first-last c =
    let e : (leb c.in_ok-first.first.col c.in_ok-last.last.col && leb c.in_ok-first.first.row c.in_ok-last.last.row) ≡ false = grind (arith, nat_tests) in
    rw (c.in_ok-first.ensures, c.in_ok-last.ensures) (rw e)

pub returns : goal.returns
unfolding only
returns c =
    let e : (leb c.in_ok-first.first.col c.in_ok-last.last.col && leb c.in_ok-first.first.row c.in_ok-last.last.row) ≡ true = grind (arith, nat_tests) in
    rw (c.in_ok-first.ensures, c.in_ok-last.ensures) (rw e)
