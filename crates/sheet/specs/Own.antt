-- The engine as it is by now, on memories and events as lists of numbers. Assumes nothing: these are definitions.
use Rattle.std.specs.Prelude.{ℕ, List, Some, None, Option}
use Rattle.plain.specs.Commands.{Command}
use Rattle.plain.specs.Run.{Event, on, said, line, next, Act, done, refused}
use Rattle.plain.specs.Read.{read_command}

-- bytes that are no command are refused with 1, and every command with 2: none is known yet
abbrev pub refusal_by : Option Command → ℕ
refusal_by None = 1
refusal_by (Some c) = 2

unfoldable pub refusal_of : List ℕ → ℕ
refusal_of text = refusal_by (read_command text)

-- power is done at once; and nothing else was asked for that a line or a going on could answer
abbrev pub answer : Event → Act
answer (on lines) = done
answer (said text) = refused (refusal_of text)
answer (line p) = refused 1
answer next = refused 1
