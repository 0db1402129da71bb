-- The engine's own step, and how a step is told to the world outside. Assumes nothing: these are definitions.
use Rattle.std.specs.Prelude.{ℕ, Bool, List}
use Rattle.plain.specs.Device.{so_many_of}
use Rattle.plain.specs.Run.{Engine}
use Rattle.events.specs.declared.told.Told.{Told}
use Rattle.events.specs.Entry.{StepOf, fits_of}
use Rattle.sheet.specs.Own.{answer}

-- THE ENGINE ITSELF: the main promise is about this, and the contract of `step` says that the code does just this
unfoldable pub own : Engine
own = record { start = so_many_of 262144 0; step = λ m ev. record { memory = m; act = answer ev } }

-- one step: for memories of the engine's own length and a lent row of 131,072 bytes; for others number 0 is told and nothing is changed
abbrev pub StepSays : (memory : List ℕ) (kind : ℕ) (bytes out : List ℕ) → Bool → Told → (memory₁ out₁ : List ℕ) → Type 0
StepSays = StepOf own

abbrev pub step_fits : (memory : List ℕ) (kind : ℕ) (bytes out : List ℕ) → Bool
step_fits = fits_of own
