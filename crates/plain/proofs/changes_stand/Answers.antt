use Rattle.plain.proofs.Changes.{changes_local}
use Rattle.plain.proofs.changes_stand.Goals as goal

pub returns : goal.returns
returns c = changes_local
