use Rattle.lines.proofs.Words.{word_again, words_all, chunk_long}
use Rattle.lines.proofs.line.words_from.Goals as goal

pub loop-i-preserved : goal.loop-i-preserved
loop-i-preserved g c =
    let e = chunk_long c.args.bytes.now c.as_chunks.result.0.now c.loop-i.i c.as_chunks.ensures.front c.loop-i-test.true in
    word_again c.loop-i.words c.as_chunks.result.0.now c.loop-i.i c.from_be_bytes.result c.loop-i-test.true c.loop-i.invariant e c.from_be_bytes.ensures

pub returns : goal.returns
returns g c =
    words_all c.loop-i.words c.as_chunks.result.0.now c.loop-i.i c.args.bytes.now g.row.N c.requires c.loop-i-test.false c.loop-i.invariant c.as_chunks.ensures.front
