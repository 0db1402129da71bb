-- The engine that stages make: told an event, it notes the answer, runs its stage again against all answers so far, and does the act that is wanted
-- next; where the stage comes out, its move is applied, and the next stage begins with its first act. Assumes nothing: these are definitions.
use Rattle.std.specs.Prelude.{ℕ, List, length, ◌==◌}
use Rattle.plain.specs.Term.{pick}
use Rattle.plain.specs.Device.{so_many_of}
use Rattle.plain.specs.Run.{done, refused, Event, on, said, line, next, Step, Engine}
use Rattle.programs.specs.Prog.{Out, came, wants, replay}
use Rattle.programs.specs.Machine.{tidy, blank, doing}
use Rattle.lines.specs.Words.{words_in}
use Rattle.machine.specs.declared.end.End.{End}
use Rattle.machine.specs.declared.end.End.TheVariants.{Go, Done, Refused}
use Rattle.machine.specs.declared.stages.Move.{Move}
use Rattle.machine.specs.Memory.{fixed, put_at, registers_in, command_in, directory_in, tape_in, saved, pushed, heard}
use Rattle.machine.specs.Model.{Model}

module _ {D : Type 0} (M : Model D) where
  -- the stage that memory is in, against the answers that it holds
  unfoldable pub run_in : List ℕ → Out (Move D)
  run_in m = replay (M.stage (registers_in m) (command_in m) (directory_in m)) (tape_in m)

  unfoldable pub deed_done : List ℕ → D → List ℕ
  deed_done m d = put_at 200 131072 m (fixed 131072 (M.apply d (directory_in m)))

  unfoldable pub applied : List ℕ → Move D → List ℕ
  applied m v = saved (deed_done m v.deed) v.registers

  -- a stage that just began has an act to do first: one that has none is a fault
  abbrev pub opening : List ℕ → Out (Move D) → Step
  opening m (wants x) = doing m x
  opening m (came v t) = doing m (refused 0)

  unfoldable pub begun : List ℕ → Step
  begun m = opening m (run_in m)

  abbrev pub ended : List ℕ → End → Step
  ended m Go = begun m
  ended m Done = doing m done
  ended m (Refused r) = doing m (refused r.number)

  unfoldable pub moved : List ℕ → Move D → Step
  moved m v = ended (applied m v) v.end

  abbrev pub turn : List ℕ → Out (Move D) → Step
  turn m (wants x) = doing m x
  turn m (came v t) = moved m v

  unfoldable pub answered : List ℕ → Step
  answered m = turn m (run_in m)

  abbrev pub told : List ℕ → Event → Step
  told m (on n) = begun (saved m (M.boot n))
  told m (said s) = moved (heard m s) (M.hear (registers_in m) (directory_in m) s)
  told m (line l) = answered (pushed m (words_in (tidy l)))
  told m next = answered (pushed m (words_in blank))

  -- a memory of another length is left as it is
  abbrev pub stepped : List ℕ → Event → Step
  stepped m e = pick (length m == 262144) (told m e) (doing m (refused 0))

  unfoldable pub engine_of : Engine
  engine_of = record { start = so_many_of 262144 0; step = λ m e. stepped m e }
