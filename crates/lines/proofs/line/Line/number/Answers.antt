use Rattle.std.proofs.Common.{◌≡◌, ◌^◌, ◌<◌, length, get_or, sym, arith, rules}
use Rattle.lines.proofs.Words.{first_word}
use Rattle.lines.proofs.line.Line.number.Goals as goal

pub returns : goal.returns
returns c =
    let l : length c.args.self.now.words ≡ 8 = search rules in
    let h : get_or c.args.self.now.words 0 0 < 2 ^ 64 = omega arith in
    sym (first_word c.args.self.now.words l h)
