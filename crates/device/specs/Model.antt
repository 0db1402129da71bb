-- Which plain device the code's device stands for. Assumes nothing: these are definitions.
use Rattle.std.specs.Prelude.{vec_items}
use Rattle.plain.specs.Device as plain
use Rattle.device.specs.declared.memory.Device.{Device}
use Rattle.device.specs.Stores.{stores_of}

abbrev pub device_of : Device → plain.Device
device_of d = record { lines = vec_items d.lines; cache = stores_of (vec_items d.cache) }
