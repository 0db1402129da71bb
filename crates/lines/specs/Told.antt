-- Which plain act an act of the code is, and what code that runs over a tape says of a program. Assumes nothing: these are definitions.
use Rattle.std.specs.Prelude.{◌≡◌, List, Ok, Err, Result}
use Rattle.plain.specs.Device as device
use Rattle.plain.specs.Run as run
use Rattle.programs.specs.Prog.{Prog, ret, ask, Out, came, wants, replay}
use Rattle.lines.specs.declared.act.Act.{Act}
use Rattle.lines.specs.declared.act.Act.TheVariants.{Read, Store, Settle, Show}
use Rattle.lines.specs.declared.tape.Tape.{Tape}
use Rattle.lines.specs.Words.{line_of, answers}

abbrev pub act_of : Act → run.Act
act_of (Read k) = run.read k
act_of (Store k l) = run.store k (line_of l)
act_of (Settle k) = run.settle k
act_of (Show r) = run.shows r

-- the answers that are still to come
abbrev pub rest : Tape → List device.Line
rest t = answers t.words.now 0

-- an act that is answered with nothing that counts
abbrev pub does : run.Act → Prog (Unit {0})
does x = ask x (λ l. ret tt)

-- how a function over the tape tells what its program came to: what its result stands for, and the answers that are left; or the act that is wanted
abbrev pub told_as : {A B : Type 0} → (A → B) → Result A Act → List device.Line → Out B
told_as f (Ok a) t = came (f a) t
told_as f (Err x) t = wants (act_of x)

abbrev pub told : {A : Type 0} → Result A Act → List device.Line → Out A
told r t = told_as (λ a. a) r t

-- code over a tape that does what a program says: run against the answers that are left before it, the program comes to what the code tells, and leaves
-- the answers that the code leaves
abbrev pub FollowsAs : {A B : Type 0} → (A → B) → Prog B → Tape → Result A Act → Tape → Type 0
FollowsAs f program old result new = replay program (rest old) ≡ told_as f result (rest new)

abbrev pub Follows : {A : Type 0} → Prog A → Tape → Result A Act → Tape → Type 0
Follows program old result new = FollowsAs (λ a. a) program old result new
