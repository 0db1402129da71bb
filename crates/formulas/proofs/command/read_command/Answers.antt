use Rattle.std.proofs.Common.{◌≡◌, ◌<◌, length, sym, arith}
use Rattle.std.proofs.lemmas.Bool.Decides.{nat_tests}
use Rattle.formulas.specs.Told.{told}
use Rattle.formulas.proofs.Telling.{told_none, told_some, told_long, told_whole}
use Rattle.formulas.proofs.command.read_command.Goals as goal

pub returns-in_err-command : goal.returns-in_err-command
unfolding told
returns-in_err-command c = told_none _ _ _ _ c.front.ensures c.in_err-command.ensures.value c.from_residual.ensures.1

pub returns-then-not-is_empty : goal.returns-then-not-is_empty
unfolding told
returns-then-not-is_empty c =
    let l : 0 < length c.in_ok-command.rest.now = grind (arith, nat_tests) in
    sym (told_long _ _ _ (told_some _ _ _ c.front.ensures c.in_ok-command.ensures.value) l)

pub returns : goal.returns
unfolding told
returns c =
    let l : length c.in_ok-command.rest.now ≡ 0 = grind (arith, nat_tests) in
    sym (told_whole _ _ _ (told_some _ _ _ c.front.ensures c.in_ok-command.ensures.value) l)
