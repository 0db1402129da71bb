-- What a step comes to, way by way: the facts that the proof of `step` cites.
use Rattle.std.proofs.Common.{◌≡◌, ℕ, Bool, true, false, List, length, Some, None, Ok, Err, Option, Result, IsTrue, ◌↔◌, refl, ap, ◌∙◌, arith}
use Rattle.plain.specs.Term.{pick}
use Rattle.plain.specs.Commands as plain
use Rattle.plain.specs.Commands.{core_term}
use Rattle.plain.proofs.Many.{length_many}
use Rattle.plain.specs.Read.{read_command}
use Rattle.plain.specs.Run.{Event, on, said, line, next}
use Rattle.formulas.specs.declared.command.Command.{Command}
use Rattle.formulas.specs.declared.command.Command.TheVariants.{Set}
use Rattle.formulas.specs.declared.command.Refusal.{Refusal}
use Rattle.formulas.specs.declared.command.Refusal.TheVariants.{Unknown}
use Rattle.formulas.specs.Told.{at_place, number_of, parts, told, told_of}
use Rattle.events.specs.declared.told.Told.{Told}
use Rattle.events.specs.declared.told.Told.TheVariants.{No}
use Rattle.events.specs.Entry.{ActTold, HasSizes, event_of}
use Rattle.events.proofs.Tells.{unfit, fit}
use Rattle.sheet.specs.Own.{answer, refusal_by, refusal_of}
use Rattle.sheet.specs.Entry.{StepSays, own, step_fits}
use Rattle.sheet.specs.Stores.{StoresLines}

pub length_start : length own.start ≡ 262144
unfolding own
length_start = length_many 262144 0

pub no_says : (m : List ℕ) (k : ℕ) (bs out : List ℕ) → (IsTrue false ↔ HasSizes m k out) → StepSays m k bs out (step_fits m k bs out) (No 0) m out
no_says = unfit own length_start

pub says : (m : List ℕ) (k : ℕ) (bs out : List ℕ) (r : Told) (out₁ : List ℕ) (ev : Event) → (IsTrue true ↔ HasSizes m k out) → ev ≡ event_of k bs → ActTold (answer ev) r out out₁ →
    StepSays m k bs out (step_fits m k bs out) r m out₁
unfolding own
says m k bs out r out₁ ev h g t = fit own length_start m k bs out r m out₁ ev h g (refl, t)

-- why bytes are refused, by what the reader tells of them
abbrev pub told_number : Result Command Refusal → ℕ
told_number (Ok p) = 2
told_number (Err r) = number_of r

told_parts : (c : plain.Command) → told_number (parts c) ≡ 2
told_parts (plain.set_cell c r t) = go (core_term t)
  where
    go : (b : Bool) → told_number (pick b (Ok (Set (at_place c r))) (Err Unknown)) ≡ 2
    go true = refl
    go false = refl
told_parts (plain.wipe b) = refl
told_parts (plain.show c r) = refl
told_parts (plain.rows b) = refl
told_parts (plain.written c r) = refl
told_parts (plain.name n t) = refl
told_parts (plain.unname n) = refl
told_parts (plain.insert v p k) = refl
told_parts (plain.remove v p k) = refl
told_parts (plain.copy b c r) = refl

told_refusal : (o : Option plain.Command) → told_number (told_of o) ≡ refusal_by o
told_refusal None = refl
told_refusal (Some c) = told_parts c

pub refusal_told : (text : List ℕ) (r : Result Command Refusal) → r ≡ told text → told_number r ≡ refusal_of text
unfolding told refusal_of
refusal_told text r e = ap told_number e ∙ told_refusal (read_command text)

-- it stores nothing yet
pub stores_lines : StoresLines
unfolding StoresLines own
stores_lines m (on n) k p e = let z : ◌≡◌ {A = ℕ} 0 1 = cc in absurd (omega arith)
stores_lines m (said text) k p e = let z : ◌≡◌ {A = ℕ} 0 1 = cc in absurd (omega arith)
stores_lines m (line q) k p e = let z : ◌≡◌ {A = ℕ} 0 1 = cc in absurd (omega arith)
stores_lines m next k p e = let z : ◌≡◌ {A = ℕ} 0 1 = cc in absurd (omega arith)
