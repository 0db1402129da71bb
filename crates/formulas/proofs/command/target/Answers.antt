use Rattle.spelling.specs.Kinds.{formula_number}
use Rattle.spelling.specs.declared.kinds.FormulaKind.TheVariants.{Cell, Area}
use Rattle.spelling.proofs.KindOf.{no_kind}
use Rattle.formulas.proofs.Telling.{no_target}
use Rattle.formulas.proofs.command.target.Goals as goal

pub returns-in_err-ok : goal.returns-in_err-ok
returns-in_err-ok c =
    let h = no_kind formula_number _ _ c.in_err-ok.ensures.value c.try_from.ensures in
    rw (c.from_residual-in_err-ok.ensures, c.in_ok-tag.ensures) (no_target _ _ (h Cell) (h Area))
