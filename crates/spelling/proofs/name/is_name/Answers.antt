use Rattle.std.proofs.Common.{sym, ◌∙◌}
use Rattle.spelling.proofs.Names.{name_is}
use Rattle.spelling.proofs.name.is_name.Goals as goal

pub returns-then-text-le-LONGEST_NAME : goal.returns-then-text-le-LONGEST_NAME
returns-then-text-le-LONGEST_NAME c = name_is _ _ (sym c.is_empty.ensures ∙ c.if-text-le-LONGEST_NAME.true.0) c.if-text-le-LONGEST_NAME.true.1 c.has_name_bytes.ensures
