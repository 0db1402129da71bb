use Rattle.plain.proofs.Reading.{reads, told_apart}
use Rattle.plain.proofs.reading_stands.Goals as goal

pub returns : goal.returns
returns c = record { reads = reads; apart = told_apart }
