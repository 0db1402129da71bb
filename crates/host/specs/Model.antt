-- Which plain world the code's machine stands for. Assumes nothing: these are definitions.
use Rattle.std.specs.Prelude.{ℕ, List, vec_items, Vec}
use Rattle.std.specs.declared.alloc.Global.{Global}
use Rattle.plain.specs.Term.{each}
use Rattle.plain.specs.Run as run
use Rattle.plain.specs.Run.{World}
use Rattle.device.specs.Model.{device_of}
use Rattle.host.specs.declared.machine.Machine.{Machine}
use Rattle.host.specs.declared.machine.Ran.{Ran}
use Rattle.host.specs.Ends.{end_number}

abbrev pub world_of : Machine → World
world_of m = record { device = device_of m.device; memory = vec_items m.memory }

abbrev pub row_of : Machine → List ℕ
row_of m = vec_items m.row

-- rows that were shown
abbrev pub rows_of : Vec (Vec ℕ Global) Global → List (List ℕ)
rows_of v = each vec_items (vec_items v)

-- how a command went, with what there is afterwards
abbrev pub ran_of : Ran → World → run.Ran
ran_of x w = run.ran w (rows_of x.shown) x.lines_used (end_number x.end)
