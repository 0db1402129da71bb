use Rattle.std.proofs.Common.{refl}
use Rattle.formulas.proofs.command.named.Goals as goal

pub returns : goal.returns
returns c = rw (c.in_ok-_text.ensures, c.in_ok-rest.ensures.1) (_, refl, refl)
