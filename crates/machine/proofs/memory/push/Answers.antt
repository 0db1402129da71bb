use Rattle.std.proofs.Common.{◌≡◌, ◌+◌, ◌-◌, ◌*◌, arith}
use Rattle.machine.specs.Memory.{pushed}
use Rattle.machine.proofs.memory.push.Goals as goal

pub returns : goal.returns
unfolding pushed
returns c =
    let n = c.min-answers.result in
    let z : 131272 + 8 * n + 8 - (131272 + 8 * n) ≡ 8 = omega arith in
    rw (z, c.copy_from_slice.ensures.after, c.min-answers.ensures)
