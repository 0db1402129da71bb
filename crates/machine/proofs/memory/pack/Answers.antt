use Rattle.std.proofs.Common.{◌≡◌, ◌*◌, length, rules}
use Rattle.lines.proofs.Words.{word_again, words_all, chunk_long}
use Rattle.machine.proofs.memory.pack.Goals as goal

pub loop-i-preserved : goal.loop-i-preserved
loop-i-preserved c =
    let e = chunk_long c.args.bytes.now c.as_chunks.result.0.now c.loop-i.i c.as_chunks.ensures.front c.loop-i-test.true in
    word_again c.loop-i.words c.as_chunks.result.0.now c.loop-i.i c.from_be_bytes.result c.loop-i-test.true c.loop-i.invariant e c.from_be_bytes.ensures

pub returns : goal.returns
returns c =
    let l : length c.args.bytes.now ≡ 1088 = search rules in
    words_all c.loop-i.words c.as_chunks.result.0.now c.loop-i.i c.args.bytes.now 136 l c.loop-i-test.false c.loop-i.invariant c.as_chunks.ensures.front
