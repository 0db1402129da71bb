use Rattle.std.proofs.Common.{◌≡◌, ◌^◌, ◌<◌, drop}
use Rattle.events.specs.Entry.{from_eight}
use Rattle.events.proofs.event.number_in.Given as goal

abbrev pub invariant-loop-b : goal.invariant-loop-b
invariant-loop-b l = (l.n < 256 ^ l.b-index) × (from_eight l.n (drop l.b-index l.first) ≡ from_eight 0 l.first)
