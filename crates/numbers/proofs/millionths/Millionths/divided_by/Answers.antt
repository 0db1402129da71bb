use Rattle.std.proofs.Common.{sym, ap, ◌∙◌, w64, to_z, of_z}
use Rattle.plain.specs.Term.{empty}
use Rattle.std.proofs.lemmas.Int.{to_z-of_z}
use Rattle.numbers.proofs.Signs.{divided_so, divisor_so, zero_so}
use Rattle.numbers.proofs.millionths.Millionths.divided_by.Goals as goal

pub returns-then-divisor-eq0 : goal.returns-then-divisor-eq0
returns-then-divisor-eq0 c = zero_so c.count-divisor.result _ _ c.count-divisor.ensures (sym (to_z-of_z w64 c.count-divisor.result (record { sfits = c.count-divisor.type_inv })) ∙ ap (to_z w64) c.if-divisor-eq0.true)

pub nonzero_div-count : goal.nonzero_div-count
nonzero_div-count c =
    divisor_so c.count.result c.count-divisor.result _ _ empty (record { sfits = c.count.type_inv }) (record { sfits = c.count-divisor.type_inv }) c.count.ensures c.count-divisor.ensures (λ e. c.if-divisor-eq0.false (ap (of_z w64) e))

pub returns : goal.returns
returns c =
    divided_so c.count.result c.count-divisor.result _ _ _ (record { sfits = c.count.type_inv }) (record { sfits = c.count-divisor.type_inv }) c.count.ensures c.count-divisor.ensures
    (λ e. c.if-divisor-eq0.false (ap (of_z w64) e)) c.within.ensures
