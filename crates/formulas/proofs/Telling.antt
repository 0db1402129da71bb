-- What the code tells of bytes, by what the reader on lists reads: the facts that the code's proofs share, and that what is told is right.
use Rattle.std.proofs.Math.Bool.{and_assoc, and-true}
use Rattle.std.proofs.Math.Nat.{suc-ne-zero}
use Rattle.std.proofs.Common.{◌≡◌, ℕ, zero, suc, ◌-◌, ◌<◌, ◌≤◌, Bool, true, false, ◌&&◌, ltb, ◌≢◌, List, [], ◌∷◌, length, drop, Some, None, Ok, Err, Option, Result, sym, refl, ap, ◌∙◌, arith, ◌==◌, MatchOption, IsErrAnd}
use Rattle.std.proofs.lemmas.List.{drop_at}
use Rattle.std.proofs.lemmas.Bool.{le-ltb}
use Rattle.std.specs.Bool.{then_some}
use Rattle.std.specs.Option.{ok_or}
use Rattle.std.specs.Borrow.{Bor}
use Rattle.std.specs.Result.{result_ok}
use Rattle.plain.specs.Term.{pick, eight, Term, Terms, no_terms, term_and, opposite}
use Rattle.plain.specs.Commands as plain
use Rattle.plain.specs.Commands.{core, core_term, core_terms, term_spelled}
use Rattle.plain.specs.Promise.{Said}
use Rattle.plain.specs.Read.{Got, got, nothing, then, one, flag, read_term, so_many, term_tag, only, target_tag, command_tag, whole, read_command}
use Rattle.plain.proofs.EightBytes.{eight_long}
use Rattle.plain.proofs.Reading.{said_of, so_many_step, tagged, unsaid}
use Rattle.spelling.specs.Kinds.{Numbered, axis_number, command_number, formula_number, operator_number, function_number}
use Rattle.spelling.specs.declared.kinds.Operator.{Operator as OperatorKind}
use Rattle.spelling.specs.declared.kinds.Operator.TheVariants as operator
use Rattle.spelling.specs.declared.kinds.Function.{Function as FunctionKind}
use Rattle.spelling.specs.declared.kinds.Function.TheVariants as function
use Rattle.spelling.specs.declared.kinds.CommandKind.{CommandKind}
use Rattle.spelling.specs.declared.kinds.CommandKind.TheVariants as command
use Rattle.spelling.specs.declared.kinds.Axis.{Axis}
use Rattle.spelling.specs.declared.kinds.Axis.TheVariants as axis
use Rattle.spelling.specs.declared.kinds.NoSuchKind.{NoSuchKind}
use Rattle.spelling.proofs.KindOf.{kind_is, no_kind}
use Rattle.spelling.specs.declared.kinds.FormulaKind.{FormulaKind}
use Rattle.spelling.specs.declared.kinds.FormulaKind.TheVariants.{Constant, Cell, Area, Named, Gone, Opposite, Operator, Function}
use Rattle.formulas.specs.declared.command.Command.{Command}
use Rattle.formulas.specs.declared.command.Command.TheVariants.{Set}
use Rattle.formulas.specs.declared.command.Refusal.{Refusal}
use Rattle.formulas.specs.declared.command.Refusal.TheVariants.{Malformed, Unknown}
use Rattle.formulas.specs.Told.{at_place, is_rows, parts, Passed, PassedAll, PassesOver, Partly, Tells, told_of, told, ToldAs, ToldRight}

-- a formula, by the kind that its first byte stands for
pub formula_at : (f d t : ℕ) (bs r : List ℕ) (o : Result FormulaKind NoSuchKind) (k l : FormulaKind) → (1 ≤ f) × (d ≡ f - 1) → one bs ≡ got t r → Numbered formula_number t o → Some k ≡ result_ok o → k ≡ l →
    read_term f bs ≡ term_tag (read_term d) (formula_number l) r
formula_at f d t bs r o k l h e n i j =
    let z : f ≢ 0 = omega arith in
    rw h.1 (tagged f _ t bs r z e (kind_is formula_number o i n ∙ ap formula_number j))

-- a byte that is no kind of formula
pub no_formula : (go : List ℕ → Got Term) (k : ℕ) (bs : List ℕ) → ((f : FormulaKind) → k ≢ formula_number f) → term_tag go k bs ≡ nothing
no_formula go zero bs h = absurd (h Constant refl)
no_formula go (suc zero) bs h = absurd (h Cell refl)
no_formula go (suc (suc zero)) bs h = absurd (h Area refl)
no_formula go (suc (suc (suc zero))) bs h = absurd (h Named refl)
no_formula go (suc (suc (suc (suc zero)))) bs h = absurd (h Gone refl)
no_formula go (suc (suc (suc (suc (suc zero))))) bs h = absurd (h Opposite refl)
no_formula go (suc (suc (suc (suc (suc (suc zero)))))) bs h = absurd (h Operator refl)
no_formula go (suc (suc (suc (suc (suc (suc (suc zero))))))) bs h = absurd (h Function refl)
no_formula go (suc (suc (suc (suc (suc (suc (suc (suc n)))))))) bs h = refl

-- which bytes are an operator or a function
operator_small : (o : OperatorKind) → ltb (operator_number o) 8 ≡ true
operator_small operator.Sum = refl
operator_small operator.Difference = refl
operator_small operator.Product = refl
operator_small operator.Quotient = refl
operator_small operator.Joined = refl
operator_small operator.Equal = refl
operator_small operator.Less = refl
operator_small operator.AtMost = refl

pub an_operator : (k : ℕ) (o : OperatorKind) (r : Result OperatorKind NoSuchKind) → Some o ≡ result_ok r → Numbered operator_number k r → ltb k 8 ≡ true
an_operator k o r e h = rw (kind_is operator_number r e h) (operator_small o)

large : (k : ℕ) → k ≢ 0 → k ≢ 1 → k ≢ 2 → k ≢ 3 → k ≢ 4 → k ≢ 5 → k ≢ 6 → k ≢ 7 → 8 ≤ k
large k a b c d e f g h = omega arith

pub no_operator : (k : ℕ) (r : Result OperatorKind NoSuchKind) → None ≡ result_ok r → Numbered operator_number k r → ltb k 8 ≡ false
no_operator k r e h =
    let n = no_kind operator_number k r e h in
    le-ltb k 8 (large k (n operator.Sum) (n operator.Difference) (n operator.Product) (n operator.Quotient) (n operator.Joined) (n operator.Equal) (n operator.Less) (n operator.AtMost))

function_small : (o : FunctionKind) → ltb (function_number o) 10 ≡ true
function_small function.Sum = refl
function_small function.Count = refl
function_small function.Least = refl
function_small function.Greatest = refl
function_small function.If = refl
function_small function.Lookup = refl
function_small function.Place = refl
function_small function.SumIf = refl
function_small function.Length = refl
function_small function.Not = refl

pub a_function : (k : ℕ) (o : FunctionKind) (r : Result FunctionKind NoSuchKind) → Some o ≡ result_ok r → Numbered function_number k r → ltb k 10 ≡ true
a_function k o r e h = rw (kind_is function_number r e h) (function_small o)

larger : (k : ℕ) → k ≢ 0 → k ≢ 1 → k ≢ 2 → k ≢ 3 → k ≢ 4 → k ≢ 5 → k ≢ 6 → k ≢ 7 → k ≢ 8 → k ≢ 9 → 10 ≤ k
larger k a b c d e f g h i j = omega arith

pub no_function : (k : ℕ) (r : Result FunctionKind NoSuchKind) → None ≡ result_ok r → Numbered function_number k r → ltb k 10 ≡ false
no_function k r e h =
    let n = no_kind function_number k r e h in
    le-ltb k 10 (larger k (n function.Sum) (n function.Count) (n function.Least) (n function.Greatest) (n function.If) (n function.Lookup) (n function.Place) (n function.SumIf) (n function.Length) (n function.Not))

pub an_if : (k : ℕ) (o : FunctionKind) (r : Result FunctionKind NoSuchKind) → Some o ≡ result_ok r → Numbered function_number k r → o ≡ function.If → ◌==◌ k 4 ≡ true
an_if k o r e h i = rw (kind_is function_number r e h, i)

other_than_if : (o : FunctionKind) → o ≢ function.If → ◌==◌ (function_number o) 4 ≡ false
other_than_if function.Sum h = refl
other_than_if function.Count h = refl
other_than_if function.Least h = refl
other_than_if function.Greatest h = refl
other_than_if function.If h = absurd (h refl)
other_than_if function.Lookup h = refl
other_than_if function.Place h = refl
other_than_if function.SumIf h = refl
other_than_if function.Length h = refl
other_than_if function.Not h = refl

pub no_if : (k : ℕ) (o : FunctionKind) (r : Result FunctionKind NoSuchKind) → Some o ≡ result_ok r → Numbered function_number k r → o ≢ function.If → ◌==◌ k 4 ≡ false
no_if k o r e h i = rw (kind_is function_number r e h) (other_than_if o i)

-- a formula with a minus before it, by what is read behind that
pub opposite_passed : {X : Type 0} (o : Option X) (g : Got Term) (f : X → Bool) (r : X → List ℕ) → MatchOption o (g ≡ nothing) (λ p. Passed g (f p) (r p)) →
    MatchOption o (then g (λ t bs. got (opposite t) bs) ≡ nothing) (λ p. Passed (then g (λ t bs. got (opposite t) bs)) (f p) (r p))
unfolding core_term
opposite_passed None g f r h = rw h
opposite_passed (Some p) g f r h = rw h.1 (_, refl, h.2)

-- what is read of all formulas, by what is read of those that are left and whether those before them are of the core
abbrev pub Leads : Got Terms → Bool → Got Terms → Type 0
Leads g core left = (left ≡ nothing → g ≡ nothing) × ((b : Bool) (bs : List ℕ) → PassedAll left b bs → PassedAll g (core && b) bs)

pub leads_on : (go : List ℕ → Got Term) (g : Got Terms) (core b : Bool) (m n : ℕ) (bs bs₁ : List ℕ) → m ≡ suc n → Leads g core (so_many m go bs) →
    Passed (go bs) b bs₁ → Leads g (core && b) (so_many n go bs₁)
unfolding so_many core_terms
leads_on go g core b m n bs bs₁ h l p = (
  λ e. l.0 (rw (h, p.1, e) refl),
  λ d ds q. let r = l.1 (b && d) ds (rw (h, p.1, q.1) (term_and p.0 q.0, refl, rw (p.2, q.2) refl)) in (r.0, r.1, r.2 ∙ sym (and_assoc core b d)),
)

pub leads_nowhere : (go : List ℕ → Got Term) (g : Got Terms) (core : Bool) (m : ℕ) (bs : List ℕ) → m ≢ 0 → Leads g core (so_many m go bs) → go bs ≡ nothing →
    g ≡ nothing
leads_nowhere go g core m bs h l e = l.0 (rw (so_many_step m go bs h, e) refl)

pub leads_home : (go : List ℕ → Got Term) (g : Got Terms) (core : Bool) (m : ℕ) (bs : List ℕ) → m ≡ 0 → Leads g core (so_many m go bs) → PassedAll g core bs
unfolding so_many core_terms
leads_home go g core m bs h l = let r = l.1 true bs (rw h (no_terms, refl, refl)) in (r.0, r.1, r.2 ∙ and-true core)

-- a byte that is no kind of command, and one that is neither a cell nor an area
pub no_command : (k : ℕ) (bs : List ℕ) → ((f : CommandKind) → k ≢ command_number f) → command_tag k bs ≡ nothing
no_command zero bs h = refl
no_command (suc zero) bs h = absurd (h command.Set refl)
no_command (suc (suc zero)) bs h = absurd (h command.Wipe refl)
no_command (suc (suc (suc zero))) bs h = absurd (h command.Show refl)
no_command (suc (suc (suc (suc zero)))) bs h = absurd (h command.Rows refl)
no_command (suc (suc (suc (suc (suc zero))))) bs h = absurd (h command.Written refl)
no_command (suc (suc (suc (suc (suc (suc zero)))))) bs h = absurd (h command.Name refl)
no_command (suc (suc (suc (suc (suc (suc (suc zero))))))) bs h = absurd (h command.Unname refl)
no_command (suc (suc (suc (suc (suc (suc (suc (suc zero)))))))) bs h = absurd (h command.Insert refl)
no_command (suc (suc (suc (suc (suc (suc (suc (suc (suc zero))))))))) bs h = absurd (h command.Remove refl)
no_command (suc (suc (suc (suc (suc (suc (suc (suc (suc (suc zero)))))))))) bs h = absurd (h command.Copy refl)
no_command (suc (suc (suc (suc (suc (suc (suc (suc (suc (suc (suc n))))))))))) bs h = refl

pub no_target : (k : ℕ) (bs : List ℕ) → k ≢ 1 → k ≢ 2 → target_tag k bs ≡ nothing
no_target zero bs a b = refl
no_target (suc zero) bs a b = absurd (a refl)
no_target (suc (suc zero)) bs a b = absurd (b refl)
no_target (suc (suc (suc n))) bs a b = refl

-- which byte stands for an axis
axis_flag : (a : Axis) (bs : List ℕ) → flag (axis_number a) bs ≡ got (is_rows a) bs
axis_flag axis.Columns bs = refl
axis_flag axis.Rows bs = refl

pub an_axis : (k : ℕ) (a : Axis) (r : Result Axis NoSuchKind) (bs : List ℕ) → Some a ≡ result_ok r → Numbered axis_number k r → flag k bs ≡ got (is_rows a) bs
an_axis k a r bs e h = rw (kind_is axis_number r e h) (axis_flag a bs)

pub no_axis : (k : ℕ) (r : Result Axis NoSuchKind) (bs : List ℕ) → None ≡ result_ok r → Numbered axis_number k r → flag k bs ≡ nothing
no_axis k r bs e h = let n = no_kind axis_number k r e h in no_flag k bs (n axis.Columns) (n axis.Rows)
  where
    no_flag : (k : ℕ) (bs : List ℕ) → k ≢ 0 → k ≢ 1 → flag k bs ≡ nothing
    no_flag zero bs a b = absurd (a refl)
    no_flag (suc zero) bs a b = absurd (b refl)
    no_flag (suc (suc n)) bs a b = refl

-- what is read only where something holds
pub passed_if : {A : Type 0} (b : Bool) (x : A) (r : Bor (List ℕ)) → PassesOver (only b (got x r.now)) (then_some b r)
unfolding only
passed_if true x r = (x, refl)
passed_if false x r = refl

pub told_if : (b : Bool) (c : plain.Command) (p : Result Command Refusal × Bor (List ℕ)) → parts c ≡ p.0 → Tells (only b (got c p.1.now)) (then_some b p)
unfolding only
told_if true c p e = (c, refl, e)
told_if false c p e = refl

-- a command that is told only where it is of the core
pub told_unless : (b : Bool) (p : Command) → pick b (Ok p) (Err Unknown) ≡ ok_or (then_some b p) Unknown
told_unless true p = refl
told_unless false p = refl

-- what is told where nothing was read, and what is known where something was
pub told_none : (o : Option (Result Command Refusal × Bor (List ℕ))) (g : Got plain.Command) (r : Result Command Refusal) (f : Refusal) → Tells g o → Err f ≡ ok_or o Malformed → IsErrAnd r (λ e. e ≡ f) → r ≡ told_of (whole g)
told_none None g (Ok p) f h i j = absurd j
told_none None g (Err e) f h i j = let k : f ≡ Malformed = cc in rw h (ap Err (j ∙ k))
told_none (Some p) g r f h i j = absurd (suc-ne-zero 0 cc)

pub told_some : (o : Option (Result Command Refusal × Bor (List ℕ))) (g : Got plain.Command) (p : Result Command Refusal × Bor (List ℕ)) → Tells g o → Ok p ≡ ok_or o Malformed → Partly g p.0 p.1.now
told_some None g p h i = absurd (suc-ne-zero 0 cc)
told_some (Some q) g p h i = let e : p ≡ q = cc in rw e h

-- what is told of a command, by its parts and what is behind it
pub told_long : (g : Got plain.Command) (p : Result Command Refusal) (bs : List ℕ) → Partly g p bs → 0 < length bs → told_of (whole g) ≡ Err Malformed
told_long g p [] h l = absurd (omega arith)
told_long g p (b ∷ bs) h l = rw h.1

pub told_whole : (g : Got plain.Command) (p : Result Command Refusal) (bs : List ℕ) → Partly g p bs → length bs ≡ 0 → told_of (whole g) ≡ p
told_whole g p [] h l = rw h.1 h.2
told_whole g p (b ∷ bs) h l = absurd (omega arith)

told_parts : (text : List ℕ) (c : plain.Command) → Said text c → ToldAs text (parts c)
unfolding ToldAs core
told_parts text (plain.set_cell c r t) h = go (core_term t) refl
  where
    go : (b : Bool) → core_term t ≡ b → ToldAs text (pick b (Ok (Set (at_place c r))) (Err Unknown))
    go true e = (plain.set_cell c r t, h, e, rw e refl)
    go false e = (plain.set_cell c r t, h, e)
told_parts text (plain.wipe b) h = (_, h, refl, refl)
told_parts text (plain.show c r) h = (_, h, refl, refl)
told_parts text (plain.rows b) h = (_, h, refl, refl)
told_parts text (plain.written c r) h = (_, h, refl, refl)
told_parts text (plain.name n t) h = (_, h, refl)
told_parts text (plain.unname n) h = (_, h, refl)
told_parts text (plain.insert v p k) h = (_, h, refl)
told_parts text (plain.remove v p k) h = (_, h, refl)
told_parts text (plain.copy b c r) h = (_, h, refl)

told_as : (text : List ℕ) (o : Option plain.Command) → read_command text ≡ o → ToldAs text (told_of o)
unfolding ToldAs
told_as text None e = unsaid text e
told_as text (Some c) e = told_parts text c (said_of text c e)

formula_behind : (text : List ℕ) (c r : ℕ) (t : Term) → Said text (plain.set_cell c r t) → drop 10 text ≡ term_spelled t
unfolding Said plain.spelled
formula_behind text c r t h = rw (← h.0) (drop_at (eight r) (term_spelled t) 8 (eight_long r))

pub told_right : ToldRight
unfolding ToldRight told
told_right = (λ text. told_as text (read_command text) refl, formula_behind)
