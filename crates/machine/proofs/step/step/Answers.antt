use Rattle.std.proofs.Common.{◌≡◌, refl, rules}
use Rattle.events.proofs.Tells.{unfit, fit}
use Rattle.machine.specs.Engine.{engine_of}
use Rattle.machine.proofs.Tells.{length_start, told_step}
use Rattle.machine.proofs.step.step.Goals as goal

pub returns-then-not-fits : goal.returns-then-not-fits
returns-then-not-fits g c = let M = g.S.Stages.model in unfit (engine_of M) (length_start M) _ _ _ _ c.if-not-fits.ensures

pub returns : goal.returns
returns g c =
    let M = g.S.Stages.model in
    let same : c.unwrap.result.now ≡ c.args.memory.now = search rules in
    fit (engine_of M) (length_start M) _ _ _ _ _ _ _ _ c.if-not-fits.ensures c.told.ensures
    (told_step M _ _ _ _ _ _ _ (c.if-not-fits.ensures.0 refl).0 same c.tell.ensures)
