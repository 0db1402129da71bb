use Rattle.std.proofs.Common.{ap, ◌∙◌}
use Rattle.numbers.specs.Entry.{replied}
use Rattle.numbers.proofs.Replies.{refused_so, no_operation, left_large, right_large, both_small}
use Rattle.numbers.proofs.reckon.made.Goals as goal

pub returns-in_err-operation : goal.returns-in_err-operation
returns-in_err-operation c = refused_so _ _ _ c.from_residual.ensures.1 (no_operation _ _ _ _ _ _ c.in_err-operation.ensures)

pub returns-in_err-left : goal.returns-in_err-left
returns-in_err-left c =
    refused_so _ _ _ c.from_residual-in_err-left.ensures.1 (left_large _ _ _ _ _ _ c.in_ok-operation.ensures _ _ c.from_sign.ensures c.in_err-left.ensures.value)

pub returns-in_err-right : goal.returns-in_err-right
returns-in_err-right c =
    refused_so _ _ _ c.from_residual-in_err-right.ensures.1
    (right_large _ _ _ _ _ _ c.in_ok-operation.ensures _ _ _ _ c.from_sign.ensures c.in_ok-left.ensures.value c.from_sign-2.ensures c.in_err-right.ensures.value)

pub returns : goal.returns
returns c =
    c.from.ensures ∙ (ap replied c.of.ensures ∙ both_small _ _ _ _ _ _ c.in_ok-operation.ensures _ _ _ _ c.from_sign.ensures c.in_ok-left.ensures.value c.from_sign-2.ensures c.in_ok-right.ensures.value)
