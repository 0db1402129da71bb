use Rattle.spelling.proofs.Fronts.{only_if}
use Rattle.spelling.proofs.name.name.Goals as goal

pub returns : goal.returns
returns c = rw (c.in_ok-text.ensures, c.then_some.ensures, c.is_name.ensures) (only_if (λ b. b.now) _ _)
