use Rattle.std.proofs.Common.{◌≡◌, length, sym, ap, ◌∙◌, rules}
use Rattle.machine.specs.Memory.{fixed}
use Rattle.machine.proofs.Parts.{fixed_own}
use Rattle.machine.proofs.memory.change_directory.Goals as goal

pub returns : goal.returns
returns g c =
    let e : c.apply.new.directory ≡ g.S.Stages.model.apply c.args.deed c.args.directory.now = search rules in
    let l : length c.apply.new.directory ≡ 131072 = search rules in
    sym (fixed_own 131072 c.apply.new.directory l (λ i. (c.type_inv.directory i).fits)) ∙ ap (λ ds. fixed 131072 ds) e
