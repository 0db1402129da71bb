use Rattle.std.proofs.Common.{refl}
use Rattle.formulas.proofs.Telling.{an_axis, no_axis, passed_if}
use Rattle.formulas.proofs.command.stretch.Goals as goal

pub returns-in_err-axis : goal.returns-in_err-axis
returns-in_err-axis c = rw (c.from_residual-in_err-axis.ensures, c.in_ok-tag.ensures, no_axis _ _ c.in_ok-tag.rest.now c.in_err-axis.ensures.value c.try_from.ensures) refl

pub returns : goal.returns
returns c =
    rw (c.in_ok-tag.ensures, an_axis _ _ _ _ c.in_ok-axis.ensures.value c.try_from.ensures, c.in_ok-at.ensures, c.in_ok-many.ensures, c.then_some.ensures, c.is_stretch.ensures)
    (passed_if _ _ _)
