use Rattle.std.proofs.Common.{◌+◌, ◌*◌, ◌≤◌}
use Rattle.typed.specs.Sizes.{size}
use Rattle.typed.proofs.reader.Reader.+formulas.Given as goal

abbrev pub decreases-formula : goal.decreases-formula
decreases-formula l = 4 * l.depth

abbrev pub decreases-call : goal.decreases-call
decreases-call l = 4 * l.depth + 1

abbrev pub decreases-worded : goal.decreases-worded
decreases-worded l = 4 * l.depth + 2

abbrev pub decreases-opposite : goal.decreases-opposite
decreases-opposite l = 4 * l.depth + 2

abbrev pub decreases-bracketed : goal.decreases-bracketed
decreases-bracketed l = 4 * l.depth + 2

abbrev pub decreases-operand : goal.decreases-operand
decreases-operand l = 4 * l.depth + 3

abbrev pub invariant-formula-loop : goal.invariant-formula-loop
invariant-formula-loop l = l.start ≤ size l.self.code

abbrev pub invariant-call-loop-n : goal.invariant-call-loop-n
invariant-call-loop-n l = l.start ≤ size l.self.code
