use Rattle.std.proofs.Common.{ap}
use Rattle.machine.specs.Memory.{directory_in, put_at}
use Rattle.machine.specs.Engine.{deed_done}
use Rattle.machine.proofs.memory.change.Goals as goal

pub returns : goal.returns
unfolding deed_done directory_in
returns g c = ap (λ ds. put_at 200 131072 c.args.memory.now ds) c.change_directory.ensures
