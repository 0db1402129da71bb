-- Which write of the journal a write of the code is. Assumes nothing: these are definitions.
use Rattle.std.specs.Prelude.{List}
use Rattle.plain.specs.Term.{each}
use Rattle.journal.specs.Journal as journal
use Rattle.lines.specs.Words.{line_of}
use Rattle.batches.specs.declared.steps.Write.{Write}

abbrev pub write_of : Write → journal.Write
write_of w = record { to = w.to; text = line_of w.text }

abbrev pub writes_of : List Write → List journal.Write
writes_of ws = each write_of ws
