use Rattle.std.proofs.Common.{arith}
use Rattle.lines.specs.Told.{rest}
use Rattle.machine.proofs.Runs.{tape_so, run_so}
use Rattle.machine.proofs.memory.run.Goals as goal

pub returns : goal.returns
returns g c =
    let t = tape_so c.args.memory.now c.min-answers.result _ (rest c.new-tape.result) c.min-answers.ensures (omega arith) c.new-tape.ensures in
    (rest c.stage.new.tape, run_so g.S.Stages.model c.args.memory.now _ _ _ _ _ c.registers.ensures c.command.ensures c.directory.ensures t c.stage.ensures)
