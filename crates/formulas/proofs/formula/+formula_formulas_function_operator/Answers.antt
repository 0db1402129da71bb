use Rattle.std.proofs.Common.{◌≡◌, suc, ◌+◌, ◌-◌, ◌≢◌, refl, arith, rules}
use Rattle.std.proofs.lemmas.Bool.{le-leb, lt-leb}
use Rattle.plain.specs.Commands.{core_term}
use Rattle.plain.specs.Read.{read_term, only}
use Rattle.plain.proofs.Reading.{tagged, read_none}
use Rattle.spelling.specs.Kinds.{formula_number}
use Rattle.spelling.proofs.KindOf.{no_kind}
use Rattle.spelling.specs.declared.kinds.FormulaKind.TheVariants.{Constant, Cell, Area, Named, Gone, Opposite, Operator, Function}
use Rattle.formulas.proofs.Telling.{formula_at, opposite_passed, no_formula, an_operator, no_operator, a_function, no_function, an_if, no_if, leads_on, leads_nowhere, leads_home}
use Rattle.formulas.proofs.formula.+formula_formulas_function_operator.Goals as goal
use Rattle.formulas.proofs.formula.+formula_formulas_function_operator.Goals.{function-in-If, function-in_default}

pub formula-returns-in_err-depth : goal.formula-returns-in_err-depth
unfolding read_term
formula-returns-in_err-depth t c = let e : c.args.depth ≡ 0 = omega arith in rw (c.from_residual.ensures, e)

pub formula-returns-in_err-tag : goal.formula-returns-in_err-tag
formula-returns-in_err-tag t c = rw c.from_residual-in_err-tag.ensures (read_none _ _ c.in_err-tag.ensures)

pub formula-returns-in_err-ok : goal.formula-returns-in_err-ok
formula-returns-in_err-ok t c =
    let h = no_kind formula_number _ _ c.in_err-ok.ensures.value c.try_from.ensures in
    let n : c.args.depth ≢ 0 = omega (arith, c.in_ok-depth.ensures.0) in
    rw (c.from_residual-in_err-ok.ensures, tagged _ c.in_ok-tag.tag _ _ _ n c.in_ok-tag.ensures refl) (no_formula _ _ _ h)

pub formula-returns-in-Constant : goal.formula-returns-in-Constant
unfolding core_term
formula-returns-in-Constant t c =
    rw (formula_at _ _ _ _ _ _ _ Constant c.in_ok-depth.ensures c.in_ok-tag.ensures c.try_from.ensures c.in_ok-ok.ensures.value c.in-Constant.is)
    (search rules)

pub formula-returns-in-Cell : goal.formula-returns-in-Cell
unfolding core_term
formula-returns-in-Cell t c =
    rw (formula_at _ _ _ _ _ _ _ Cell c.in_ok-depth.ensures c.in_ok-tag.ensures c.try_from.ensures c.in_ok-ok.ensures.value c.in-Cell.is)
    (search rules)

pub formula-returns-in-Area : goal.formula-returns-in-Area
unfolding core_term
formula-returns-in-Area t c =
    rw (formula_at _ _ _ _ _ _ _ Area c.in_ok-depth.ensures c.in_ok-tag.ensures c.try_from.ensures c.in_ok-ok.ensures.value c.in-Area.is)
    (search rules)

pub formula-returns-in-Named : goal.formula-returns-in-Named
unfolding core_term
formula-returns-in-Named t c =
    rw (formula_at _ _ _ _ _ _ _ Named c.in_ok-depth.ensures c.in_ok-tag.ensures c.try_from.ensures c.in_ok-ok.ensures.value c.in-Named.is)
    (search rules)

pub formula-returns-in-Gone : goal.formula-returns-in-Gone
unfolding core_term
formula-returns-in-Gone t c =
    rw (formula_at _ _ _ _ _ _ _ Gone c.in_ok-depth.ensures c.in_ok-tag.ensures c.try_from.ensures c.in_ok-ok.ensures.value c.in-Gone.is) (_, refl, refl)

pub formula-returns-in-Opposite : goal.formula-returns-in-Opposite
formula-returns-in-Opposite t c =
    rw (formula_at _ _ _ _ _ _ _ Opposite c.in_ok-depth.ensures c.in_ok-tag.ensures c.try_from.ensures c.in_ok-ok.ensures.value c.in-Opposite.is)
    (opposite_passed _ _ _ _ c.formula.ensures)

pub formula-returns-in-Operator : goal.formula-returns-in-Operator
formula-returns-in-Operator t c =
    rw (formula_at _ _ _ _ _ _ _ Operator c.in_ok-depth.ensures c.in_ok-tag.ensures c.try_from.ensures c.in_ok-ok.ensures.value c.in-Operator.is) c.operator.ensures

pub formula-returns-in-Function : goal.formula-returns-in-Function
formula-returns-in-Function t c =
    rw (formula_at _ _ _ _ _ _ _ Function c.in_ok-depth.ensures c.in_ok-tag.ensures c.try_from.ensures c.in_ok-ok.ensures.value c.in-Function.is) c.function.ensures

pub formulas-returns-in_err-core : goal.formulas-returns-in_err-core
formulas-returns-in_err-core t c =
    let left : c.args.n - c.loop.counter ≢ 0 = omega arith in
    rw c.from_residual.ensures (leads_nowhere _ _ _ _ _ left c.loop.invariant c.in_err-core.ensures)

pub formulas-loop-preserved : goal.formulas-loop-preserved
formulas-loop-preserved t c =
    let left : c.args.n - c.loop.counter ≡ suc (c.args.n - (c.loop.counter + 1)) = omega arith in
    leads_on _ _ _ _ _ _ _ _ left c.loop.invariant c.in_ok-core.ensures

pub formulas-returns : goal.formulas-returns
formulas-returns t c =
    let left : c.args.n - c.loop.counter ≡ 0 = omega arith in
    leads_home _ _ _ _ _ left c.loop.invariant

pub operator-returns-in_err-_operator : goal.operator-returns-in_err-_operator
unfolding only
operator-returns-in_err-_operator t c =
    rw (c.from_residual-in_err-_operator.ensures, c.in_ok-which.ensures, no_operator _ _ c.in_err-_operator.ensures.value c.try_from.ensures)

pub operator-returns-in_err-a : goal.operator-returns-in_err-a
unfolding only
operator-returns-in_err-a t c =
    rw (c.from_residual-in_err-a.ensures, c.in_ok-which.ensures, an_operator _ _ _ c.in_ok-_operator.ensures.value c.try_from.ensures, c.in_err-a.ensures)

pub operator-returns-in_err-b : goal.operator-returns-in_err-b
unfolding only
operator-returns-in_err-b t c =
    rw (c.from_residual-in_err-b.ensures, c.in_ok-which.ensures, an_operator _ _ _ c.in_ok-_operator.ensures.value c.try_from.ensures, c.in_ok-a.ensures.1, c.in_err-b.ensures)

pub operator-returns : goal.operator-returns
unfolding only core_term
operator-returns t c =
    rw (c.in_ok-which.ensures, an_operator _ _ _ c.in_ok-_operator.ensures.value c.try_from.ensures, c.in_ok-a.ensures.1, c.in_ok-b.ensures.1)
    (_, refl, rw (c.in_ok-a.ensures.2, c.in_ok-b.ensures.2))

pub function-returns-in_err-which-2 : goal.function-returns-in_err-which-2
unfolding only
function-returns-in_err-which-2 t c =
    rw (c.from_residual-in_err-which-2.ensures, c.in_ok-which.ensures, no_function _ _ c.in_err-which-2.ensures.value c.try_from.ensures)

pub function-returns-in_err-n : goal.function-returns-in_err-n
unfolding only
function-returns-in_err-n t c =
    rw (c.from_residual-in_err-n.ensures, c.in_ok-which.ensures, a_function _ _ _ c.in_ok-which-2.ensures.value c.try_from.ensures, c.in_err-n.ensures)

pub function-returns-then-n-gt-MOST_VALUES : goal.function-returns-then-n-gt-MOST_VALUES
unfolding only
function-returns-then-n-gt-MOST_VALUES t c =
    rw (c.in_ok-which.ensures, a_function _ _ _ c.in_ok-which-2.ensures.value c.try_from.ensures, c.in_ok-n.ensures, lt-leb _ 16 c.if-n-gt-MOST_VALUES.true)

pub function-returns-in_err-all : goal.function-returns-in_err-all
unfolding only
function-returns-in_err-all t c =
    rw (c.from_residual-in_err-all.ensures, c.in_ok-which.ensures, a_function _ _ _ c.in_ok-which-2.ensures.value c.try_from.ensures, c.in_ok-n.ensures, le-leb _ 16 c.if-n-gt-MOST_VALUES.false, c.in_err-all.ensures)

pub function-returns : goal.function-returns
unfolding only core_term
function-returns t c =
    rw (c.in_ok-which.ensures, a_function _ _ _ c.in_ok-which-2.ensures.value c.try_from.ensures, c.in_ok-n.ensures, le-leb _ 16 c.if-n-gt-MOST_VALUES.false, c.in_ok-all.ensures.1) (
      _,
      refl,
      rw c.in_ok-all.ensures.2 (elim c.match-matches.branch [
        | function-in-If w ↦ rw (w.matches-is, an_if _ _ _ c.in_ok-which-2.ensures.value c.try_from.ensures w.in-If.is)
        | function-in_default w ↦ rw (w.matches-is, no_if _ _ _ c.in_ok-which-2.ensures.value c.try_from.ensures w.in_default.not-If)
      ]),
    )
