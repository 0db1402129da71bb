use Rattle.plain.specs.Read.{only}
use Rattle.plain.proofs.EightBytes.{bytes_typed}
use Rattle.spelling.specs.Kinds.{constant_number}
use Rattle.spelling.specs.declared.kinds.ConstantKind.TheVariants.{Number, Text, Truth}
use Rattle.spelling.proofs.Fronts.{text_fits, no_value}
use Rattle.spelling.proofs.KindOf.{kind_is, no_kind}
use Rattle.spelling.proofs.constant.Constant.read.Goals as goal

pub returns-in_err-ok : goal.returns-in_err-ok
returns-in_err-ok c =
    let h = no_kind constant_number _ _ c.in_err-ok.ensures.value c.try_from.ensures in
    rw (c.from_residual-in_err-ok.ensures, c.in_ok-tag.ensures) (no_value _ _ (h Number) (h Text) (h Truth))

pub returns-in_ok-text-in-Text : goal.returns-in_ok-text-in-Text
unfolding only
returns-in_ok-text-in-Text c =
    let k = kind_is constant_number _ c.in_ok-ok.ensures.value c.try_from.ensures in
    let h = text_fits _ _ _ _ _ _ (bytes_typed _ c.type_inv.bytes) c.in_ok-tag.ensures c.in_ok-text-in-Text.ensures in
    rw (c.in_ok-tag.ensures, k, c.in-Text.is, c.in_ok-text-in-Text.ensures) (rw h)
