use Rattle.programs.proofs.Fate.{stops_so}
use Rattle.programs.proofs.stops_stand.Goals as goal

pub returns : goal.returns
returns g c = stops_so g.D.Derived.derivation
