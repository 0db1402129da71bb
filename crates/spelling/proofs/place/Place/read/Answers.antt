use Rattle.std.proofs.Common.{◌≡◌, arith}
use Rattle.plain.specs.Read.{read_place, only}
use Rattle.plain.proofs.EightBytes.{bytes_typed}
use Rattle.spelling.proofs.Fronts.{on_sheet_in, on_sheet_out, one_fits, ok_is, none_is}
use Rattle.spelling.proofs.place.Place.read.Goals as goal

pub returns-in_err-col : goal.returns-in_err-col
unfolding read_place
returns-in_err-col c = rw (c.from_residual.ensures, c.in_err-col.ensures)

pub returns-in_err-row : goal.returns-in_err-row
unfolding read_place
returns-in_err-row c = rw (c.from_residual-in_err-row.ensures, c.in_ok-col.ensures, c.in_err-row.ensures)

pub returns-in_err-row-2 : goal.returns-in_err-row-2
unfolding read_place only
returns-in_err-row-2 c =
    let k = none_is _ _ c.in_err-row-2.ensures.value c.try_from.ensures in
    rw (c.from_residual-in_err-row-2.ensures, c.in_ok-col.ensures, c.in_ok-row.ensures, on_sheet_out c.in_ok-col.col c.in_ok-row.row (omega arith))

pub returns : goal.returns
unfolding read_place only
returns c =
    let h = one_fits _ _ _ (bytes_typed _ c.type_inv.bytes) c.in_ok-col.ensures in
    let k = ok_is _ c.in_ok-row-2.ensures.value c.try_from.ensures in
    let e : c.in_ok-row-2.row ≡ c.in_ok-row.row = omega arith in
    rw (c.in_ok-col.ensures, c.in_ok-row.ensures, on_sheet_in c.in_ok-col.col c.in_ok-row.row h (omega arith), e)
