use Rattle.std.proofs.Common.{◌≡◌, length, take, map}
use Rattle.plain.specs.Read.{number}
use Rattle.machine.proofs.memory.pack.Given as goal

abbrev pub invariant-loop-i : goal.invariant-loop-i
invariant-loop-i l = (length l.words ≡ length l.chunks) × (take l.i l.words ≡ map number (take l.i l.chunks))
