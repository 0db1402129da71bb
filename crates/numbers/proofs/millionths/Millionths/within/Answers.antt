use Rattle.std.proofs.Common.{w64}
use mir.Syntax.{w128}
use Rattle.std.proofs.lemmas.Int.{to_z-of_z}
use Rattle.numbers.proofs.Signs.{within_in, within_high, within_low, small}
use Rattle.numbers.proofs.millionths.Millionths.within.Goals as goal
use Rattle.numbers.proofs.millionths.Millionths.within.Goals.{else-count-via-then-count+else-count-lt-LIMIT, else-count-via-else-count}

pub returns-then-count-lt-LIMIT : goal.returns-then-count-lt-LIMIT
returns-then-count-lt-LIMIT c =
    let e = to_z-of_z w128 c.args.count c.ranges.count in
    let l = rw e at c.if-count.true in
    let h = rw e at c.if-count-lt-LIMIT.true in
    rw (e, to_z-of_z w64 c.args.count (small c.args.count l h)) (within_in c.args.count l h)

pub returns-else-count : goal.returns-else-count
returns-else-count c =
    let e = to_z-of_z w128 c.args.count c.ranges.count in
    elim c.else-count.branch [
      | else-count-via-then-count+else-count-lt-LIMIT w ↦ within_high c.args.count (rw e at w.if-count-lt-LIMIT.false)
      | else-count-via-else-count w ↦ within_low c.args.count (rw e at w.if-count.false)
    ]
