use Rattle.programs.proofs.Fate.{ends_so}
use Rattle.programs.proofs.ends_stand.Goals as goal

pub returns : goal.returns
returns g c = ends_so g.D.Derived.derivation
