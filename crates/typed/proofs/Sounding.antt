-- Bytes that the reader of bytes has an answer for spell a command that fits, and it answers so.
use Rattle.std.proofs.Common.{◌≡◌, ℕ, Bool, true, false, List, Some, None, Ok, Err, Option, sym, refl, ap, ◌∙◌}
use Rattle.std.proofs.lemmas.Option.{none-some}
use Rattle.plain.specs.Term.{pick}
use Rattle.plain.specs.Commands as plain
use Rattle.plain.specs.Commands.{core, core_term}
use Rattle.plain.specs.Promise.{Said}
use Rattle.plain.specs.Read.{read_command}
use Rattle.plain.proofs.Reading.{said_of}
use Rattle.spelling.specs.declared.place.Place.{Place}
use Rattle.formulas.specs.declared.command.Command.TheVariants.{Set}
use Rattle.formulas.specs.declared.command.Refusal.TheVariants.{Unknown}
use Rattle.formulas.specs.Told.{at_place, told_of, told}
use Rattle.typed.specs.declared.reading.Answer.{Answer}
use Rattle.typed.specs.declared.reading.Answer.TheVariants.{Done}
use Rattle.typed.specs.Lines.{answer_of, answer_to_lem, Sound}

set_answer : (b : Bool) (p : Place) → answer_to_lem (pick b (Ok (Set p)) (Err Unknown)) ≡ Some Done
set_answer true p = refl
set_answer false p = refl

-- what a command answers with is what it is told to
answers : (c : plain.Command) → answer_to_lem (told_of (Some c)) ≡ Some (answer_of c)
answers (plain.set_cell c r t) = set_answer (core_term t) (at_place c r)
answers (plain.wipe b) = refl
answers (plain.show c r) = refl
answers (plain.rows b) = refl
answers (plain.written c r) = refl
answers (plain.name n t) = refl
answers (plain.unname n) = refl
answers (plain.insert v p k) = refl
answers (plain.remove v p k) = refl
answers (plain.copy b c r) = refl

spells : (bytes : List ℕ) (answer : Answer) (o : Option plain.Command) → read_command bytes ≡ o → answer_to_lem (told_of o) ≡ Some answer →
    (c : plain.Command) × Said bytes c × (answer_of c ≡ answer)
spells bytes answer None e h = absurd (none-some answer h)
spells bytes answer (Some c) e h = let same = answers c in (c, said_of bytes c e, cc)

pub sound : (bytes : List ℕ) (answer : Answer) → answer_to_lem (told bytes) ≡ Some answer → Sound bytes answer
unfolding told
sound bytes answer h =
    record {
      well_formed = λ e. none-some answer (sym (ap answer_to_lem e) ∙ h);
      spells = spells bytes answer (read_command bytes) refl h;
    }
