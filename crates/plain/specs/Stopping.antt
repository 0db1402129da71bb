-- What a stop may leave of a device, in lines; and what holds of them whatever stops. Assumes nothing: these are definitions.
use Rattle.std.specs.Prelude.{◌≡◌, ℕ, List, []}
use Rattle.plain.specs.Device.{Device, Line, all_stored, of_line, left}

-- the lines as they are read, and as a stop leaves them
abbrev pub seen : Device → List Line
seen d = all_stored d.lines d.cache

abbrev pub stop : Device → List ℕ → List Line
stop d cs = left d.lines d.cache cs

-- what holds of the lines whatever stops
abbrev pub Always : (List Line → Type 0) → Device → Type 0
Always P d = (cs : List ℕ) → P (stop d cs)

-- and beside it S of the lines as they are read
abbrev pub Is : (List Line → Type 0) → (List Line → Type 0) → Device → Type 0
Is S P d = Always P d × S (seen d)

-- a line is sure if no store to it is in the cache
abbrev pub Sure : Device → ℕ → Type 0
Sure d k = of_line k d.cache ≡ []
