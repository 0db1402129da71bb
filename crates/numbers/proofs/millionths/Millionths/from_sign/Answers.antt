use Rattle.std.proofs.Common.{◌∙◌, ap, arith}
use Rattle.std.proofs.lemmas.Int.{ints}
use Rattle.plain.specs.Term.{within}
use Rattle.numbers.proofs.Signs.{small_so, below_from, above_from}
use Rattle.numbers.proofs.millionths.Millionths.from_sign.Goals as goal
use Rattle.numbers.proofs.millionths.Millionths.from_sign.Goals.{then-below_zero, else-below_zero}

pub returns : goal.returns
returns c =
    rw c.ok.ensures.value (small_so c.within.result _ (c.within.ensures ∙ ap within (elim c.if-below_zero.branch [
      | then-below_zero w ↦ rw w.if-below_zero.true (below_from _ _ (omega (arith, ints)))
      | else-below_zero w ↦ rw w.if-below_zero.false (above_from _ _ (omega (arith, ints)))
    ])))
