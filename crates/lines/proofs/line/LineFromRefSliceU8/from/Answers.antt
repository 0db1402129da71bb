use Rattle.std.proofs.Common.{sym, ap, ◌∙◌}
use Rattle.lines.specs.Words.{words_in}
use Rattle.plain.proofs.EightBytes.{bytes_typed}
use Rattle.lines.proofs.Words.{line_back, line_words, no_line, blank_words, holds_line}
use Rattle.lines.proofs.line.LineFromRefSliceU8.from.Goals as goal

pub returns-then-bytes-ne-LINE_BYTES : goal.returns-then-bytes-ne-LINE_BYTES
returns-then-bytes-ne-LINE_BYTES c = holds_line c.args.bytes.now _ (sym (ap words_in (no_line c.args.bytes.now c.if-bytes-ne-LINE_BYTES.true) ∙ blank_words))

pub returns : goal.returns
returns c =
    let l = c.args.bytes.now in
    let t = line_back l c.if-bytes-ne-LINE_BYTES.false (bytes_typed l c.type_inv.bytes) in
    holds_line l _ (c.words_from.ensures ∙ (line_words l ∙ ap words_in (sym t)))
