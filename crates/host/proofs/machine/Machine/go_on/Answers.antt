use Rattle.std.proofs.Common.{[], ap, ◌∙◌, arith}
use Rattle.sheet.specs.Entry.{own}
use Rattle.host.specs.Acts.{acted_by, carried, out_of}
use Rattle.host.specs.Model.{rows_of, world_of}
use Rattle.host.proofs.Loops.{few_lines, goes_on, ends_so, stays_so}
use Rattle.host.proofs.machine.Machine.go_on.Goals.{else-loop-test, then-loop-test+in_default}
use Rattle.host.proofs.machine.Machine.go_on.Goals as goal

pub loop-preserved : goal.loop-preserved
loop-preserved c =
    let h = few_lines c.in-Continue.last in
    let a = c.in_ok-after.ensures in
    record {
      few = omega (arith, c.lines-lines_used.ensures, c.loop.invariant.few);
      so_far = rw c.lines-lines_used.ensures
          (goes_on own c.args.more_acts c.loop.counter c.loop.after _ _ (world_of c.loop.self) _ (rows_of c.loop.shown) a.0 _ c.loop.lines_used c.loop-test.true c.in-Continue.is a.1
          (a.2 ∙ ap (acted_by own (world_of c.loop.self)) c.event.ensures) ∙ c.loop.invariant.so_far);
    }

pub returns-in-Continue-after : goal.returns-in-Continue-after
returns-in-Continue-after c = elim c.loop-test.branch [
  | else-loop-test w ↦ rw c.lines.ensures
      (stays_so own _ _ (world_of c.loop.self) (rows_of c.loop.shown) c.loop.lines_used c.in-Continue-after.is
      ∙ (ap (λ n. carried n own (rows_of c.loop.shown) c.loop.lines_used (out_of c.loop.after (world_of c.loop.self) [])) (omega arith) ∙ c.loop.invariant.so_far))
  | then-loop-test+in_default w ↦ absurd (w.in_default.not-Continue _ c.in-Continue-after.is)
]

pub returns-in-Break : goal.returns-in-Break
returns-in-Break c = ends_so own _ _ _ (world_of c.loop.self) (rows_of c.loop.shown) c.loop.lines_used c.in-Break.is ∙ c.loop.invariant.so_far
