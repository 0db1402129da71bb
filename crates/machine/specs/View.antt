-- The engine as a machine told by programs: what its stages see, and that a memory holds it. Assumes nothing: these are definitions, and statements, of
-- which theorem functions have proofs.
use Rattle.std.specs.Prelude.{◌≡◌, ℕ, List, length, slice_index_or}
use Rattle.plain.specs.Device.{Line, so_many_of}
use Rattle.plain.specs.Run as run
use Rattle.programs.specs.Prog.{Prog, ret, bind, Opens, Short}
use Rattle.programs.specs.Machine.{Machine, Next, then, over, Laws}
use Rattle.machine.specs.declared.end.End.{End}
use Rattle.machine.specs.declared.end.End.TheVariants.{Go, Done, Refused}
use Rattle.machine.specs.declared.stages.Move.{Move}
use Rattle.machine.specs.Memory.{fixed, registers_in, command_in, directory_in, tape_in, command_of}
use Rattle.machine.specs.Model.{Model}
use Rattle.machine.specs.Engine.{engine_of}

-- what a stage depends on
pub record View : Type 0 where
  pub registers : List ℕ
  pub command : List ℕ
  pub directory : List ℕ

-- a memory holds a view, and these answers on its tape
pub record Holds (m : List ℕ) (r : View) (t : List Line) : Type 0 where
  pub size : length m ≡ 262144
  pub registers : registers_in m ≡ r.registers
  pub command : command_in m ≡ r.command
  pub directory : directory_in m ≡ r.directory
  pub tape : tape_in m ≡ t
  pub count : slice_index_or m 0 0 ≡ length t

module _ {D : Type 0} (M : Model D) where
  abbrev pub raw : View → Prog (Move D)
  raw r = M.stage r.registers r.command r.directory

  abbrev pub moved_view : View → Move D → View
  moved_view r v = record { registers = fixed 63 v.registers; command = r.command; directory = fixed 131072 (M.apply v.deed r.directory) }

  abbrev pub next_if : End → View → Next View
  next_if Go r = then r
  next_if Done r = over r 0
  next_if (Refused k) r = over r k.number

  abbrev pub stage_of : View → Prog (Next View)
  stage_of r = bind (raw r) (λ v. ret (next_if v.end (moved_view r v)))

  abbrev pub boot_view : ℕ → View
  boot_view n = record { registers = fixed 63 (M.boot n); command = so_many_of 136 0; directory = so_many_of 131072 0 }

  abbrev pub told_view : View → List ℕ → View
  told_view r text = record { registers = r.registers; command = command_of text; directory = r.directory }

  abbrev pub hear_view : View → List ℕ → Next View
  hear_view r text = let v : Move D = M.hear r.registers r.directory text in next_if v.end (moved_view (told_view r text) v)

  abbrev pub machine_of : Machine
  machine_of = record { Reg = View; stage = stage_of; boot = boot_view; hear = hear_view; engine = engine_of M; Holds = Holds }

  -- views whose stage begins with an act, and is no longer than the tape
  abbrev pub Ok : View → Type 0
  Ok r = Opens (raw r) × Short 16359 (raw r) (λ v. Unit {0})

  -- THE ENGINE REPLAYS ITS PROGRAMS: whatever the stages are, a step of the engine does what is next in its program
  unfoldable pub Replays : Type 0
  Replays = Laws machine_of Ok

  -- MEMORY NEVER GROWS, nor do its numbers, whatever the stages are and whatever is told
  unfoldable pub StaysSmall : Type 0
  StaysSmall = run.Steady (engine_of M)
