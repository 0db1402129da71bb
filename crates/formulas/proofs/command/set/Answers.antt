use Rattle.std.proofs.Common.{refl}
use Rattle.std.proofs.lemmas.Bool.{le-leb, lt-leb}
use Rattle.plain.specs.Read.{only}
use Rattle.formulas.proofs.Telling.{told_unless}
use Rattle.formulas.proofs.command.set.Goals as goal

pub returns-then-rest-gt-LONGEST_FORMULA : goal.returns-then-rest-gt-LONGEST_FORMULA
unfolding only
returns-then-rest-gt-LONGEST_FORMULA c = rw (c.in_ok-place.ensures, lt-leb _ 1024 c.if-rest-gt-LONGEST_FORMULA.true)

pub returns-in_err-core : goal.returns-in_err-core
unfolding only
returns-in_err-core c = rw (c.from_residual-in_err-core.ensures, c.in_ok-place.ensures, le-leb _ 1024 c.if-rest-gt-LONGEST_FORMULA.false, c.in_err-core.ensures)

pub returns : goal.returns
unfolding only
returns c =
    rw (c.in_ok-place.ensures, le-leb _ 1024 c.if-rest-gt-LONGEST_FORMULA.false, c.in_ok-core.ensures.1)
    (_, refl, rw (c.in_ok-core.ensures.2, c.ok_or-command.ensures.value, c.then_some.ensures) (told_unless _ _))
