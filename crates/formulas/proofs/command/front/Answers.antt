use Rattle.spelling.specs.Kinds.{command_number}
use Rattle.spelling.proofs.KindOf.{no_kind}
use Rattle.formulas.proofs.Telling.{no_command}
use Rattle.formulas.proofs.command.front.Goals as goal

pub returns-in_err-ok : goal.returns-in_err-ok
returns-in_err-ok c =
    rw (c.from_residual-in_err-ok.ensures, c.in_ok-tag.ensures) (no_command _ _ (no_kind command_number _ _ c.in_err-ok.ensures.value c.try_from.ensures))
