use Rattle.std.proofs.Common.{◌≤◌}
use Rattle.typed.specs.Sizes.{size}
use Rattle.typed.proofs.reader.Reader.read_text.Given as goal

abbrev pub invariant-loop-length : goal.invariant-loop-length
invariant-loop-length l = l.start ≤ size l.self.code
