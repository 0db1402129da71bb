use Rattle.machine.proofs.Parts.{saved_so}
use Rattle.machine.proofs.memory.save.Goals as goal

pub returns : goal.returns
returns c = saved_so c.args.memory.now c.args.registers.now _ c.told-memory c.told-registers c.copy_from_slice.ensures.after c.fits-registers
