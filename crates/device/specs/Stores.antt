-- Which plain device the code's stands for. Assumes nothing: these are definitions.
use Rattle.std.specs.Prelude.{List}
use Rattle.plain.specs.Term.{each}
use Rattle.plain.specs.Device as plain
use Rattle.device.specs.declared.store.Store.{Store}

abbrev pub store_of : Store → plain.Store
store_of s = record { at = s.at; line = s.line }

abbrev pub stores_of : List Store → List plain.Store
stores_of ws = each store_of ws
