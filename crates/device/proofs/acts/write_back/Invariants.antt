use Rattle.std.proofs.Common.{◌≡◌}
use Rattle.std.specs.Iterator.Adapters.{zip_first, zip_second}
use Rattle.std.specs.Slice.Iter.{iter_rest}
use Rattle.plain.specs.Device.{left}
use Rattle.device.specs.Stores.{stores_of}
use Rattle.device.proofs.acts.write_back.Given as goal

abbrev pub invariant-loop-store : goal.invariant-loop-store
invariant-loop-store l =
    left l.lines (stores_of (iter_rest (zip_first l.store-iterator))) (iter_rest (zip_second l.store-iterator)) ≡ left l.initial.lines (stores_of l.cache) l.arrived
