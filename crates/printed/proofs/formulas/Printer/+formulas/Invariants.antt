use Rattle.std.proofs.Common.{◌+◌, ◌*◌}
use Rattle.printed.proofs.formulas.Printer.+formulas.Given as goal

abbrev pub decreases-formula : goal.decreases-formula
decreases-formula l = 4 * l.depth

abbrev pub decreases-bracketed : goal.decreases-bracketed
decreases-bracketed l = 4 * l.depth + 1

abbrev pub decreases-operand : goal.decreases-operand
decreases-operand l = 4 * l.depth + 2

abbrev pub decreases-opposite : goal.decreases-opposite
decreases-opposite l = 4 * l.depth + 2

abbrev pub decreases-operator : goal.decreases-operator
decreases-operator l = 4 * l.depth + 3

abbrev pub decreases-function : goal.decreases-function
decreases-function l = 4 * l.depth + 3
