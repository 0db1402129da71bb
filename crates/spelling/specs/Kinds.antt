-- The byte that each kind has, and the word or mark with which it is typed. Assumes nothing: these are definitions.
use Rattle.std.specs.Prelude.{◌≡◌, ◌≢◌, ℕ, List, [], ◌∷◌, Option, Result, All, MatchOption, MatchResult, IsFalse, IsTrue, nat_eq, codes}
use Rattle.std.specs.List.{starts_with}
use Rattle.spelling.specs.declared.kinds.NoSuchKind.{NoSuchKind}
use Rattle.spelling.specs.declared.kinds.CommandKind.{CommandKind}
use Rattle.spelling.specs.declared.kinds.CommandKind.TheVariants as command
use Rattle.spelling.specs.declared.kinds.FormulaKind.{FormulaKind}
use Rattle.spelling.specs.declared.kinds.FormulaKind.TheVariants as formula
use Rattle.spelling.specs.declared.kinds.ConstantKind.{ConstantKind}
use Rattle.spelling.specs.declared.kinds.ConstantKind.TheVariants as constant
use Rattle.spelling.specs.declared.kinds.Operator.{Operator}
use Rattle.spelling.specs.declared.kinds.Operator.TheVariants as operator
use Rattle.spelling.specs.declared.kinds.Function.{Function}
use Rattle.spelling.specs.declared.kinds.Function.TheVariants as function
use Rattle.spelling.specs.declared.kinds.Axis.{Axis}
use Rattle.spelling.specs.declared.kinds.Axis.TheVariants as axis

abbrev pub command_number : CommandKind → ℕ
command_number command.Set = 1
command_number command.Wipe = 2
command_number command.Show = 3
command_number command.Rows = 4
command_number command.Written = 5
command_number command.Name = 6
command_number command.Unname = 7
command_number command.Insert = 8
command_number command.Remove = 9
command_number command.Copy = 10

abbrev pub formula_number : FormulaKind → ℕ
formula_number formula.Constant = 0
formula_number formula.Cell = 1
formula_number formula.Area = 2
formula_number formula.Named = 3
formula_number formula.Gone = 4
formula_number formula.Opposite = 5
formula_number formula.Operator = 6
formula_number formula.Function = 7

abbrev pub constant_number : ConstantKind → ℕ
constant_number constant.Number = 1
constant_number constant.Text = 2
constant_number constant.Truth = 3

abbrev pub operator_number : Operator → ℕ
operator_number operator.Sum = 0
operator_number operator.Difference = 1
operator_number operator.Product = 2
operator_number operator.Quotient = 3
operator_number operator.Joined = 4
operator_number operator.Equal = 5
operator_number operator.Less = 6
operator_number operator.AtMost = 7

abbrev pub function_number : Function → ℕ
function_number function.Sum = 0
function_number function.Count = 1
function_number function.Least = 2
function_number function.Greatest = 3
function_number function.If = 4
function_number function.Lookup = 5
function_number function.Place = 6
function_number function.SumIf = 7
function_number function.Length = 8
function_number function.Not = 9

abbrev pub axis_number : Axis → ℕ
axis_number axis.Columns = 0
axis_number axis.Rows = 1

abbrev pub lines_along : Axis → ℕ
lines_along axis.Columns = 256
lines_along axis.Rows = 65536

-- the kind with this byte, or an error where no kind has it
abbrev pub Numbered : {K : Type 0} → (K → ℕ) → ℕ → Result K NoSuchKind → Type 0
Numbered {K} number byte r = MatchResult r (λ k. number k ≡ byte) (λ e. (e.0 ≡ byte) × ((k : K) → number k ≢ byte))

abbrev pub command_word : CommandKind → List ℕ
command_word command.Set = codes "set"
command_word command.Wipe = codes "wipe"
command_word command.Show = codes "show"
command_word command.Rows = codes "rows"
command_word command.Written = codes "written"
command_word command.Name = codes "name"
command_word command.Unname = codes "unname"
command_word command.Insert = codes "insert"
command_word command.Remove = codes "remove"
command_word command.Copy = codes "copy"

abbrev pub function_word : Function → List ℕ
function_word function.Sum = codes "sum"
function_word function.Count = codes "count"
function_word function.Least = codes "least"
function_word function.Greatest = codes "greatest"
function_word function.If = codes "if"
function_word function.Lookup = codes "lookup"
function_word function.Place = codes "place"
function_word function.SumIf = codes "sumif"
function_word function.Length = codes "length"
function_word function.Not = codes "not"

abbrev pub axis_word : Axis → List ℕ
axis_word axis.Columns = codes "columns"
axis_word axis.Rows = codes "rows"

-- a kind that is found by a word has it; where none is found, none of these has it
abbrev pub IsNamed : {K : Type 0} → List K → (K → List ℕ) → List ℕ → Option K → Type 0
IsNamed all word text r = MatchOption r (All (λ k. word k ≢ text) all) (λ k. word k ≡ text)

abbrev pub operator_mark : Operator → List ℕ
operator_mark operator.Sum = codes "+"
operator_mark operator.Difference = codes "-"
operator_mark operator.Product = codes "*"
operator_mark operator.Quotient = codes "/"
operator_mark operator.Joined = codes "&"
operator_mark operator.Equal = codes "="
operator_mark operator.Less = codes "<"
operator_mark operator.AtMost = codes "<="

abbrev pub all_commands : List CommandKind
all_commands = command.Set ∷ command.Wipe ∷ command.Show ∷ command.Rows ∷ command.Written ∷ command.Name ∷ command.Unname ∷ command.Insert ∷ command.Remove ∷ command.Copy ∷ []

abbrev pub all_functions : List Function
all_functions = function.Sum ∷ function.Count ∷ function.Least ∷ function.Greatest ∷ function.If ∷ function.Lookup ∷ function.Place ∷ function.SumIf ∷ function.Length ∷ function.Not ∷ []

abbrev pub all_axes : List Axis
all_axes = axis.Columns ∷ axis.Rows ∷ []

abbrev pub all_operators : List Operator
all_operators = operator.Sum ∷ operator.Difference ∷ operator.Product ∷ operator.Quotient ∷ operator.Joined ∷ operator.Equal ∷ operator.AtMost ∷ operator.Less ∷ []

-- an operator that is found before a text has its mark there; where none is found, no operator's mark is
abbrev pub IsBefore : List ℕ → Option Operator → Type 0
IsBefore text r = MatchOption r (All (λ o. IsFalse (starts_with nat_eq text (operator_mark o))) all_operators) (λ o. IsTrue (starts_with nat_eq text (operator_mark o)))
