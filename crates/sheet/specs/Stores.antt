-- What the engine stores. Assumes nothing: this is a statement, of which a theorem function has a proof.
use Rattle.std.specs.Prelude.{◌≡◌, ℕ, true, List}
use Rattle.plain.specs.Device.{a_line}
use Rattle.plain.specs.Run.{Event, store}
use Rattle.sheet.specs.Entry.{own}

-- Every store that the engine asks for is of a line: so a program that runs it may take 64 bytes from the lent row.
unfoldable pub StoresLines : Type 0
StoresLines = (m : List ℕ) (ev : Event) (k : ℕ) (p : List ℕ) → (own.step m ev).act ≡ store k p → a_line p ≡ true
