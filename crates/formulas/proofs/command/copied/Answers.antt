use Rattle.std.proofs.Common.{refl}
use Rattle.formulas.proofs.command.copied.Goals as goal

pub returns : goal.returns
returns c = rw (c.in_ok-_from.ensures, c.in_ok-_to.ensures) (_, refl, refl)
