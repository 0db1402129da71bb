use Rattle.std.proofs.Common.{◌∙◌}
use Rattle.numbers.proofs.Replies.{told_below, told_above, told_wrong}
use Rattle.numbers.proofs.reckon.ReplyFromResultMillionthsWrong.from.Goals as goal

pub returns-then-below_zero : goal.returns-then-below_zero
returns-then-below_zero c = rw c.in-Ok.is (told_below _ _ _ c.sign-below_zero.ensures c.if-below_zero.true)

pub returns-else-below_zero : goal.returns-else-below_zero
returns-else-below_zero c = rw c.in-Ok.is (told_above _ _ _ c.sign-below_zero.ensures c.if-below_zero.false)

pub returns-in-Err : goal.returns-in-Err
returns-in-Err c = rw c.in-Err.is (told_wrong _ _ (c.from-in-Err.ensures ∙ c.from.ensures))
