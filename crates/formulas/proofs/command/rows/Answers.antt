use Rattle.std.proofs.Common.{Ok, refl}
use Rattle.plain.specs.Commands.{rows}
use Rattle.spelling.specs.Meaning.{box_of}
use Rattle.formulas.specs.declared.command.Command.TheVariants.{Rows}
use Rattle.formulas.proofs.Telling.{told_if}
use Rattle.formulas.proofs.command.rows.Goals as goal

pub returns : goal.returns
returns c =
    let area = c.in_ok-area.area in
    rw (c.in_ok-area.ensures, c.then_some.ensures, c.is_few.ensures) (told_if _ (rows (box_of area)) (Ok (Rows area), c.in_ok-area.rest) refl)
