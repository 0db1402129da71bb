use Rattle.plain.proofs.CopyingBoxes.{box_copied_on}
use Rattle.plain.proofs.boxes_go_on.Goals as goal

pub returns : goal.returns
returns c = box_copied_on
