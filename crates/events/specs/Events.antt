-- Which event an event of the code stands for. Assumes nothing: these are definitions.
use Rattle.std.specs.Prelude.{ℕ, List, []}
use Rattle.std.specs.Int.{w64, to_be_bytes}
use Rattle.plain.specs.Run as run
use Rattle.events.specs.declared.event.Event.{Event}
use Rattle.events.specs.declared.event.Event.TheVariants.{On, Said, Line, Next}

abbrev pub heard : Event → run.Event
heard (On n) = run.on n
heard (Said b) = run.said b.now
heard (Line b) = run.line b.now
heard Next = run.next

-- the kind with which it is handed over
abbrev pub kind_of : Event → ℕ
kind_of (On n) = 0
kind_of (Said b) = 1
kind_of (Line b) = 2
kind_of Next = 3

-- the bytes with which it is handed over
abbrev pub bytes_in : Event → List ℕ
bytes_in (On n) = to_be_bytes w64 n
bytes_in (Said b) = b.now
bytes_in (Line b) = b.now
bytes_in Next = []
