use Rattle.plain.proofs.Reading.{spelled_once}
use Rattle.plain.proofs.spelling_stands.Goals as goal

pub returns : goal.returns
returns c = spelled_once
