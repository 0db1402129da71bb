use Rattle.std.proofs.Common.{◌≡◌, ◌++◌, [], length, drop, ap, ◌∙◌, arith, rules}
use Rattle.std.proofs.lemmas.List.{length-take-le}
use Rattle.lines.proofs.Words.{eight_is, flat_bytes}
use Rattle.lines.proofs.line.Line.write_to.Goals as goal

pub copy_from_slice-requires : goal.copy_from_slice-requires
copy_from_slice-requires c = length-take-le 64 c.args.out.now c.requires ∙ omega (arith, c.as_flattened.ensures.len, c.map.ensures.items.long)

pub returns : goal.returns
returns c =
    let l : length c.args.self.now.words ≡ 8 = search rules in
    let m = c.map.ensures.items in
    let flat = flat_bytes c.args.self.now.words c.map.result (omega (arith, m.long)) (λ i h. (m.at i 0 [] (omega arith)).2.met ∙ eight_is _) in
    ap (λ bs. bs ++ drop 64 c.args.out.now) (c.copy_from_slice.ensures.after ∙ (c.as_flattened.ensures.value ∙ flat))
