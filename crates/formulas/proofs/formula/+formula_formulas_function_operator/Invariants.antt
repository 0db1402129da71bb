use Rattle.std.proofs.Common.{◌+◌, ◌-◌, ◌*◌}
use Rattle.plain.specs.Read.{read_term, so_many}
use Rattle.formulas.proofs.Telling.{Leads}
use Rattle.formulas.proofs.formula.+formula_formulas_function_operator.Given as goal

abbrev pub decreases-formula : goal.decreases-formula
decreases-formula l = 64 * l.depth

abbrev pub decreases-formulas : goal.decreases-formulas
decreases-formulas l = 64 * l.depth + 1

abbrev pub decreases-function : goal.decreases-function
decreases-function l = 64 * l.depth + 32

abbrev pub decreases-operator : goal.decreases-operator
decreases-operator l = 64 * l.depth + 32

abbrev pub invariant-formulas-loop : goal.invariant-formulas-loop
invariant-formulas-loop l =
    let go = read_term l.fn.depth in
    Leads (so_many l.fn.n go l.fn.bytes) l.all (so_many (l.fn.n - l.counter) go l.rest)
