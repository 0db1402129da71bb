-- The engine replays its programs: whatever the stages are, a step does what is next in the program of the stage that memory holds.
use Rattle.std.proofs.Common.{◌≡◌, ℕ, zero, suc, ◌+◌, ◌-◌, ◌<◌, ◌≤◌, eqb, ltb, List, [], ◌∷◌, ◌++◌, length, get_or, take, drop, sym, refl, ap, ◌∙◌, subst, ap₂, arith}
use Rattle.std.proofs.lemmas.List.{length_push}
use Rattle.std.proofs.lemmas.Bool.{and_parts, eqb-true}
use Rattle.plain.specs.Term.{every}
use Rattle.plain.specs.Device.{Line, so_many_of}
use Rattle.plain.specs.Run.{Act, read, store, settle, shows, done, refused, on, said}
use Rattle.programs.specs.Prog.{Prog, ret, ask, bind, replay, feed, Opens, Short}
use Rattle.programs.specs.Machine.{Machine, Next, then, ends, doing, At, answer, reply, Begun, Did}
use Rattle.programs.proofs.Programs.{feed_next, short_bind}
use Rattle.programs.proofs.Fate.{answer_line}
use Rattle.lines.specs.Words.{words_in, bytes_of}
use Rattle.lines.proofs.Words.{bytes_back}
use Rattle.machine.specs.declared.end.End.{End}
use Rattle.machine.specs.declared.end.End.TheVariants.{Go, Done, Refused}
use Rattle.machine.specs.declared.stages.Move.{Move}
use Rattle.machine.specs.Memory.{fixed, command_in, directory_in, saved, pushed, heard}
use Rattle.machine.specs.Model.{Model}
use Rattle.machine.specs.Engine.{run_in, deed_done, applied, opening, begun, ended, moved, turn, answered, told, engine_of}
use Rattle.machine.specs.View.{View, Holds, raw, moved_view, next_if, stage_of, boot_view, told_view, hear_view, machine_of, Ok, Replays}
use Rattle.machine.proofs.Parts.{length_fixed, words_long}
use Rattle.machine.proofs.Tells.{length_start, step_is}
use Rattle.machine.proofs.Runs.{drop_many, take_many}
use Rattle.machine.proofs.Kept.{part_here, part_before, put_long, saved_long, saved_registers, saved_command, saved_directory, saved_count, saved_tape, pushed_long, pushed_registers, pushed_command, pushed_directory, pushed_count, pushed_tape, heard_long, heard_command, heard_directory}

refused_ends : (k : ℕ) → 0 < k → refused k ≡ ends k
refused_ends zero h = absurd (omega arith)
refused_ends (suc k) h = refl

pushed_holds : (m : List ℕ) (r : View) (t : List Line) (l : Line) → Holds m r t → bytes_of (words_in l) ≡ l → length t < 16359 → Holds (pushed m (words_in l)) r (t ++ l ∷ [])
pushed_holds m r t l h a b =
    let c = h.count in let ws = words_in l in let w = words_long l in
    let room : get_or m 0 0 < 16359 = omega arith in
    record {
      size = pushed_long m ws h.size w;
      registers = pushed_registers m ws h.size w ∙ h.registers;
      command = pushed_command m ws h.size w ∙ h.command;
      directory = pushed_directory m ws h.size w ∙ h.directory;
      tape = pushed_tape m ws h.size w room ∙ ap₂ (λ u x. u ++ x ∷ []) h.tape a;
      count = pushed_count m ws h.size w ∙ (let q = length_push t l in omega arith);
    }

module _ {D : Type 0} (M : Model D) where
  abbrev K : Machine
  K = machine_of M

  runs_as : (m : List ℕ) (r : View) (t : List Line) → Holds m r t → run_in M m ≡ replay (raw M r) t
  unfolding run_in
  runs_as m r t h = rw (h.registers, h.command, h.directory, h.tape)

  -- a move is applied
  module _ (m : List ℕ) (r : View) (v : Move D) (h : length m ≡ 262144) (c : command_in m ≡ r.command) (d : directory_in m ≡ r.directory) where
    abbrev dir : List ℕ
    dir = fixed 131072 (M.apply v.deed (directory_in m))

    dir_long : length dir ≡ 131072
    dir_long = length_fixed 131072 (M.apply v.deed (directory_in m))

    changed_long : length (deed_done M m v.deed) ≡ 262144
    unfolding deed_done
    changed_long = put_long m dir 200 131072 (omega arith) dir_long ∙ h

    changed_directory : directory_in (deed_done M m v.deed) ≡ fixed 131072 (M.apply v.deed r.directory)
    unfolding deed_done directory_in
    changed_directory = part_here m dir 200 131072 (omega arith) dir_long ∙ ap (λ xs. fixed 131072 (M.apply v.deed xs)) d

    changed_command : command_in (deed_done M m v.deed) ≡ r.command
    unfolding deed_done command_in
    changed_command = part_before m dir 200 131072 (omega arith) dir_long 64 136 (omega arith) ∙ c

    applied_holds : Holds (applied M m v) (moved_view M r v) []
    unfolding applied
    applied_holds =
        let n : List ℕ = deed_done M m v.deed in let rs = v.registers in let l = changed_long in
        record {
          size = saved_long n rs l;
          registers = saved_registers n rs l;
          command = saved_command n rs l ∙ changed_command;
          directory = saved_directory n rs l ∙ changed_directory;
          tape = saved_tape n rs l;
          count = saved_count n rs l;
        }

  -- a stage begins with its first act
  begun_as : (a : List ℕ) (r : View) → Holds a r [] → Ok M r → Begun K (Ok M) r (stage_of M r) (begun M a)
  unfolding begun
  begun_as a r h o = subst (λ z. Begun K (Ok M) r (stage_of M r) (opening M a z)) (sym (runs_as a r [] h)) (go (raw M r) o.0)
    where
      go : (p : Prog (Move D)) → Opens p → Begun K (Ok M) r (bind p (λ v. ret (next_if M v.end (moved_view M r v)))) (opening M a (replay p []))
      go (ret v) q = unfold Opens in absurd q
      go (ask x k) q = unfold bind replay in (a, h, refl)

  comes : (a : List ℕ) (q r : View) (u : List Line) (v : Move D) (e : End) → length a ≡ 262144 → command_in a ≡ r.command → directory_in a ≡ r.directory
      → Did K (Ok M) q u (ret (next_if M e (moved_view M r v))) (ended M (applied M a v) e)
  comes a q r u v Go h c d = λ o. begun_as (applied M a v) (moved_view M r v) (applied_holds a r v h c d) o
  comes a q r u v Done h c d = λ o. (applied M a v, applied_holds a r v h c d, refl)
  comes a q r u v (Refused k) h c d = λ o. (applied M a v, applied_holds a r v h c d, ap (λ x. doing (applied M a v) x) (refused_ends k.number k.some))

  -- a step does what is next in the program
  does : (a : List ℕ) (r : View) (u : List Line) → Holds a r u → (p : Prog (Move D)) (w : List Line)
      → Did K (Ok M) r u (feed (bind p (λ v. ret (next_if M v.end (moved_view M r v)))) w) (turn M a (replay p w))
  unfolding bind replay feed moved
  does a r u h (ret v) w = comes a r r u v v.end h.size h.command h.directory
  does a r u h (ask x k) [] = (a, h, refl)
  does a r u h (ask x k) (l ∷ w) = does a r u h (k l) w

  answered_as : (a : List ℕ) (r : View) (u : List Line) → Holds a r u → Did K (Ok M) r u (feed (stage_of M r) u) (answered M a)
  unfolding answered
  answered_as a r u h = subst (λ z. Did K (Ok M) r u (feed (stage_of M r) u) (turn M a z)) (sym (runs_as a r u h)) (does a r u h (raw M r) u)

  told_as : (m : List ℕ) (x : Act) (s : At) → told M m (reply x s) ≡ answered M (pushed m (words_in (answer x s)))
  told_as m (read k) s = refl
  told_as m (store k p) s = refl
  told_as m (settle k) s = refl
  told_as m (shows row) s = refl
  told_as m done s = refl
  told_as m (refused k) s = refl

  answer_back : (x : Act) (s : At) → bytes_of (words_in (answer x s)) ≡ answer x s
  answer_back x s =
      let a = and_parts (eqb (length (answer x s)) 64) (every (λ b. ltb b 256) (answer x s)) (answer_line x s) in
      bytes_back (answer x s) (eqb-true _ _ a.0) a.1

  answers : (m : List ℕ) (r : View) (t : List Line) (x : Act) (k : Line → Prog (Next View)) (s : At)
      → Holds m r t → length t < 16359 → feed (stage_of M r) t ≡ ask x k
      → Did K (Ok M) r (t ++ answer x s ∷ []) (k (answer x s)) ((engine_of M).step m (reply x s))
  answers m r t x k s h b f =
      let u = t ++ answer x s ∷ [] in
      subst (λ z. Did K (Ok M) r u (k (answer x s)) z) (sym (step_is M m (reply x s) h.size ∙ told_as m x s))
      (subst (λ p. Did K (Ok M) r u p (answered M (pushed m (words_in (answer x s))))) (feed_next (stage_of M r) t (answer x s) x k f)
      (answered_as (pushed m (words_in (answer x s))) r u (pushed_holds m r t (answer x s) h (answer_back x s) b)))

  says : (m : List ℕ) (r : View) (text : List ℕ) → Holds m r [] → Did K (Ok M) r [] (ret (hear_view M r text)) ((engine_of M).step m (said text))
  unfolding moved
  says m r text h =
      subst (λ z. Did K (Ok M) r [] (ret (hear_view M r text)) z) (sym (step_is M m (said text) h.size ∙ seen))
      (comes (heard m text) r (told_view M r text) [] v v.end (heard_long m text h.size) (heard_command m text h.size) (heard_directory m text h.size ∙ h.directory))
    where
      v : Move D
      v = M.hear r.registers r.directory text

      seen : told M m (said text) ≡ moved M (heard m text) v
      seen = ap₂ (λ rs ds. moved M (heard m text) (M.hear rs ds text)) h.registers h.directory

  zeros_at : (a k : ℕ) → a + k ≤ 262144 → take k (drop a (engine_of M).start) ≡ so_many_of k 0
  unfolding engine_of
  zeros_at a k h = ap (λ xs. take k xs) (drop_many a 262144) ∙ take_many k (262144 - a) (omega arith)

  booted : (n : ℕ) → Holds (saved (engine_of M).start (M.boot n)) (boot_view M n) []
  unfolding command_in directory_in
  booted n =
      let m : List ℕ = (engine_of M).start in let rs = M.boot n in let l = length_start M in
      record {
        size = saved_long m rs l;
        registers = saved_registers m rs l;
        command = saved_command m rs l ∙ zeros_at 64 136 (omega arith);
        directory = saved_directory m rs l ∙ zeros_at 200 131072 (omega arith);
        tape = saved_tape m rs l;
        count = saved_count m rs l;
      }

  wakes : (n : ℕ) → Did K (Ok M) (boot_view M n) [] (ret (then (boot_view M n))) ((engine_of M).step (engine_of M).start (on n))
  wakes n = λ o.
      subst (λ z. Begun K (Ok M) (boot_view M n) (stage_of M (boot_view M n)) z) (sym (step_is M (engine_of M).start (on n) (length_start M)))
      (begun_as (saved (engine_of M).start (M.boot n)) (boot_view M n) (booted n) o)

  short : (r : View) → Ok M r → Short 16359 (stage_of M r) (λ a. Unit {0})
  unfolding Short
  short r o = short_bind (λ v. Unit {0}) (λ a. Unit {0}) 16359 0 (raw M r) (λ v. ret (next_if M v.end (moved_view M r v))) o.1 (λ v t. tt)

  pub replays : Replays M
  unfolding Replays
  replays = record {
    cap = 16359;
    short = short;
    answers = λ m r t x k s h o l b f. answers m r t x k s h b f;
    says = says;
    wakes = wakes;
  }
