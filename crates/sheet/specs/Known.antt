-- What the engine knows by now. Assumes nothing: these are definitions.
use Rattle.std.specs.Prelude.{Bool, false}
use Rattle.plain.specs.Commands.{Command}

-- nothing yet
abbrev pub nothing : Command → Bool
nothing c = false

abbrev pub known : Command → Bool
known = nothing
