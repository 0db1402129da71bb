-- What is sure of a line that is read: the bytes of a command spell one that fits, and what it answers with is known. Assumes nothing: these are definitions.
use Rattle.std.specs.Prelude.{◌≡◌, ℕ, suc, ◌-◌, List, Some, None, Ok, Err, vec_items, Option, Result}
use Rattle.plain.specs.Term.{wide}
use Rattle.plain.specs.Commands as plain
use Rattle.plain.specs.Promise.{Said}
use Rattle.formulas.specs.Told.{told}
use Rattle.formulas.specs.declared.command.Command as formulas
use Rattle.formulas.specs.declared.command.Command.TheVariants.{Set, Wipe, Show, Rows, Written}
use Rattle.formulas.specs.declared.command.Refusal.{Refusal}
use Rattle.formulas.specs.declared.command.Refusal.TheVariants.{Malformed, Unknown}
use Rattle.typed.specs.declared.reading.Answer.{Answer}
use Rattle.typed.specs.declared.reading.Answer.TheVariants.{Done, Values, Formula}
use Rattle.typed.specs.declared.reading.Line.{Line}
use Rattle.typed.specs.declared.reading.Line.TheVariants.{Nothing, Help, Quit, Command}

-- what a command answers with, if it is not refused
abbrev pub answer_of : plain.Command → Answer
answer_of (plain.set_cell c r t) = Done
answer_of (plain.wipe b) = Done
answer_of (plain.show c r) = Values 1
answer_of (plain.rows b) = Values (wide b)
answer_of (plain.written c r) = Formula
answer_of (plain.name n t) = Done
answer_of (plain.unname n) = Done
answer_of (plain.insert v p k) = Done
answer_of (plain.remove v p k) = Done
answer_of (plain.copy b c r) = Done

-- the same by what the reader of bytes tells, and nothing of bytes that are no command
abbrev pub answer_to_lem : Result formulas.Command Refusal → Option Answer
answer_to_lem (Ok (Set p)) = Some Done
answer_to_lem (Ok (Wipe a)) = Some Done
answer_to_lem (Ok (Show p)) = Some (Values 1)
answer_to_lem (Ok (Rows a)) = Some (Values (suc (a.last.col - a.first.col)))
answer_to_lem (Ok (Written p)) = Some Formula
answer_to_lem (Err Malformed) = None
answer_to_lem (Err Unknown) = Some Done

-- the bytes are a command's, one that fits, and it answers so
pub record Sound (bytes : List ℕ) (answer : Answer) : Type 0 where
  pub well_formed : told bytes ≡ Err Malformed → ⊥
  pub spells : (c : plain.Command) × Said bytes c × (answer_of c ≡ answer)

abbrev pub Sure : Line → Type 0
Sure Nothing = Unit {0}
Sure Help = Unit {0}
Sure Quit = Unit {0}
Sure (Command bytes answer) = Sound (vec_items bytes) answer
