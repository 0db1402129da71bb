-- How runs over a tape are put together: what each `?`, each turn of a loop and each end says.
use Rattle.std.proofs.Common.{◌≡◌, ℕ, suc, ◌-◌, ◌/◌, ◌<◌, ◌≤◌, List, [], ◌∷◌, length, take, drop, IsErrAnd, Result, arith}
use Rattle.plain.specs.Device.{Line}
use Rattle.plain.specs.Run.{Act}
use Rattle.programs.specs.Prog.{Prog, ret, ask, bind, Out, came, wants, replay, then_out}
use Rattle.std.proofs.lemmas.Result.{err_from_is_err_and}
use Rattle.programs.proofs.Programs.{replay_bind}
use Rattle.lines.specs.declared.act.Act as act
use Rattle.lines.specs.Told.{act_of, told_as}
use Rattle.std.proofs.lemmas.List.{length-drop}
use Rattle.lines.specs.Words.{answers, lines_in, bytes_of}

pub answers_none : (ws : List ℕ) → length ws < 8 → answers ws 0 ≡ []
unfolding answers lines_in
answers_none ws h = let z : length ws / 8 - 0 ≡ 0 = omega arith in rw z

pub answers_more : (ws : List ℕ) → 8 ≤ length ws → answers ws 0 ≡ bytes_of (take 8 ws) ∷ answers (drop 8 ws) 0
unfolding answers lines_in
answers_more ws h =
    let l = length-drop 8 ws in
    let z : length ws / 8 - 0 ≡ suc (length (drop 8 ws) / 8 - 0) = omega arith in
    rw z

-- an answer that is there, and one that is not
pub answer_here : (ws line rest : List ℕ) (x : Act) → 8 ≤ length ws → line ≡ take 8 ws → rest ≡ drop 8 ws → replay (ask x ret) (answers ws 0) ≡ came (bytes_of line) (answers rest 0)
unfolding replay
answer_here ws line rest x h e f = rw (answers_more ws h, e, f)

pub no_answer : (ws : List ℕ) (x : Act) → length ws < 8 → replay (ask x ret) (answers ws 0) ≡ wants x
unfolding replay
no_answer ws x h = rw (answers_none ws h)

-- the end of a run
pub ends : {A : Type 0} {a b : A} (t : List Line) → b ≡ a → replay (ret a) t ≡ came b t
unfolding replay
ends t e = rw e

-- a `?` that went on
pub goes : {A B : Type 0} (p : Prog A) (f : A → Prog B) (t t' : List Line) (a : A) (o : Out B) → replay p t ≡ came a t' → replay (f a) t' ≡ o → replay (bind p f) t ≡ o
unfolding then_out
goes p f t t' a o e h = rw (replay_bind, e) h

-- a `?` that left
pub stops : {A B : Type 0} (p : Prog A) (f : A → Prog B) (t : List Line) (x : Act) → replay p t ≡ wants x → replay (bind p f) t ≡ wants x
unfolding then_out
stops p f t x h = rw (replay_bind, h)

pub left : {A B : Type 0} (g : A → B) (x : act.Act) (o : Out B) (r : Result A act.Act) (t : List Line) → IsErrAnd r (λ y. y ≡ x) → o ≡ wants (act_of x) → o ≡ told_as g r t
left g x o r t e h = let p = err_from_is_err_and r e in rw (p.1, p.2) h

-- the same for one act
pub ask_goes : {A : Type 0} (x : Act) (f : Line → Prog A) (t t' : List Line) (l : Line) (o : Out A) → replay (ask x ret) t ≡ came l t' → replay (f l) t' ≡ o → replay (ask x f) t ≡ o
unfolding bind
ask_goes x f t t' l o e h = goes (ask x ret) f t t' l o e h

pub ask_stops : {A : Type 0} (x : Act) (f : Line → Prog A) (t : List Line) (y : Act) → replay (ask x ret) t ≡ wants y → replay (ask x f) t ≡ wants y
unfolding bind
ask_stops x f t y e = stops (ask x ret) f t y e
