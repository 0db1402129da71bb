use Rattle.std.proofs.Common.{arith}
use Rattle.plain.proofs.EightBytes.{bytes_typed}
use Rattle.machine.proofs.Runs.{filled, heard_words}
use Rattle.machine.proofs.memory.hear.Goals as goal

pub returns : goal.returns
returns c =
    let text = c.args.text.now in
    let n = c.min-few.result in
    heard_words c.args.memory.now text _ c.pack.new.words (bytes_typed text c.type_inv.text)
    (filled text c.copy_from_slice.new.self n (omega (arith, c.min-few.ensures)) c.copy_from_slice.ensures.after) c.pack.ensures
