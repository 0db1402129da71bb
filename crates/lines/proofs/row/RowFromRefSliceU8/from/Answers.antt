use Rattle.std.proofs.Common.{arith}
use Rattle.lines.proofs.Rows.{row_filled_up, row_cut}
use Rattle.lines.proofs.row.RowFromRefSliceU8.from.Goals as goal

pub invariant_of-result : goal.invariant_of-result
invariant_of-result c =
    row_filled_up c.args.bytes.now c.copy_from_slice.new.self c.min-len.result c.copy_from_slice.ensures.after (omega (arith, c.min-len.ensures)) (omega (arith, c.min-len.ensures))

pub returns : goal.returns
returns c = row_cut c.args.bytes.now c.copy_from_slice.new.self c.min-len.result c.copy_from_slice.ensures.after (omega (arith, c.min-len.ensures))
