-- The engine is steady: a step keeps the length of memory and its words small, whatever the stages are and whatever is told.
use Rattle.std.proofs.Common.{◌≡◌, All, ℕ, zero, suc, ◌+◌, ◌*◌, ◌<◌, ◌≤◌, min, Bool, true, false, eqb, ltb, List, [], ◌∷◌, ◌++◌, length, get_or, take, drop, set, sym, refl, ◌∙◌, subst, arith, lit≤}
use Rattle.std.proofs.lemmas.List.Elements.{All-nil, All-cons, All-head, All-tail, All-append, All-take, All-drop, All-set, All-replicate}
use Rattle.std.proofs.lemmas.Bool.{and_parts, lt-ltb, ltb-true, eqb-true}
use Rattle.plain.specs.Term.{pick, each, every, all_bytes}
use Rattle.plain.specs.Device.{Line, a_line, so_many_of}
use Rattle.plain.specs.Run.{Event, on, said, line, next, all_small, Steady, refused}
use Rattle.programs.specs.Prog.{Out, came, wants}
use Rattle.programs.specs.Machine.{tidy, blank, doing}
use Rattle.programs.proofs.Fate.{tidy_line, blank_line}
use Rattle.lines.specs.Words.{words_in}
use Rattle.lines.proofs.Words.{line_words}
use Rattle.machine.specs.declared.end.End.{End}
use Rattle.machine.specs.declared.end.End.TheVariants.{Go, Done, Refused}
use Rattle.machine.specs.declared.stages.Move.{Move}
use Rattle.machine.specs.Memory.{small, fixed, put_at, directory_in, saved, pushed, heard, packed, command_of}
use Rattle.machine.specs.Model.{Model}
use Rattle.machine.specs.Engine.{run_in, deed_done, applied, opening, begun, ended, moved, turn, answered, told, stepped, engine_of}
use Rattle.machine.specs.View.{StaysSmall}
use Rattle.plain.proofs.Many.{length_many, all_zero}
use Rattle.machine.proofs.Parts.{length_fixed, words_long}
use Rattle.machine.proofs.Runs.{many_is, packed_words}
use Rattle.machine.proofs.Kept.{put_long, saved_long, pushed_long, heard_long}

-- words that fit
abbrev Fit : ℕ → Type 0
Fit x = x < 18446744073709551616

abbrev pub Words : List ℕ → Type 0
Words m = All Fit m

words_from : (m : List ℕ) → all_small m ≡ true → Words m
unfolding all_small
words_from [] e = All-nil Fit
words_from (x ∷ xs) e =
    let p = and_parts (ltb x 18446744073709551616) (every (λ m. ltb m 18446744073709551616) xs) e in
    All-cons Fit x xs (ltb-true _ _ p.0) (words_from xs p.1)

words_to : (m : List ℕ) → Words m → all_small m ≡ true
unfolding all_small
words_to [] w = refl
words_to (x ∷ xs) w = rw (lt-ltb x 18446744073709551616 (All-head Fit x xs w)) (words_to xs (All-tail Fit x xs w))

w_each : (xs : List ℕ) → Words (each small xs)
w_each [] = All-nil Fit
w_each (x ∷ xs) = All-cons Fit (small x) (each small xs) (omega arith) (w_each xs)

w_fixed : (n : ℕ) (xs : List ℕ) → Words (fixed n xs)
unfolding fixed
w_fixed n xs = All-take Fit n _ (All-append Fit (each small xs) (so_many_of n 0) (w_each xs) (rw (← (many_is n)) (All-replicate Fit n 0 (omega arith))))

w_put : (a k : ℕ) (xs ys : List ℕ) → Words xs → Words ys → Words (put_at a k xs ys)
w_put a k xs ys w v = All-append Fit _ _ (All-take Fit a xs w) (All-append Fit ys _ v (All-drop Fit k _ (All-drop Fit a xs w)))

w_packed : (n : ℕ) (bs : List ℕ) → Words (packed n bs)
unfolding packed
w_packed zero bs = All-nil Fit
w_packed (suc n) bs = All-cons Fit _ _ (omega arith) (w_packed n (drop 8 bs))

w_line : (l : Line) → a_line l ≡ true → Words (words_in l)
w_line l a =
    let p = and_parts (eqb (length l) 64) (all_bytes l) a in
    subst Words (sym (packed_words 8 l (eqb-true _ _ p.0) p.1) ∙ line_words l) (w_packed 8 l)

-- both at once, from a memory of the engine's size
abbrev Good : List ℕ → List ℕ → Type 0
Good m n = (length n ≡ 262144) × (Words m → Words n)

good_saved : (m n rs : List ℕ) → Good m n → Good m (saved n rs)
unfolding saved
good_saved m n rs g = (saved_long n rs g.0, λ v. All-append Fit (0 ∷ fixed 63 rs) (drop 64 n) (All-cons Fit 0 _ (omega arith) (w_fixed 63 rs)) (All-drop Fit 64 n (g.1 v)))

good_pushed : (m ws : List ℕ) → length m ≡ 262144 → length ws ≡ 8 → Words ws → Good m (pushed m ws)
unfolding pushed
good_pushed m ws h e w = (
  pushed_long m ws h e,
  λ v. w_put (131272 + 8 * min (get_or m 0 0) 16358) 8 (set m 0 (min (get_or m 0 0) 16358 + 1)) ws (All-set Fit m 0 (min (get_or m 0 0) 16358 + 1) (omega arith) v) w,
)

good_heard : (m text : List ℕ) → length m ≡ 262144 → Good m (heard m text)
unfolding heard
good_heard m text h = (heard_long m text h, λ v. w_put 64 136 m (command_of text) v (w_packed 136 (take 1088 (text ++ so_many_of 1088 0))))

module _ {D : Type 0} (M : Model D) where
  good_deed : (m n : List ℕ) (d : D) → Good m n → Good m (deed_done M n d)
  unfolding deed_done
  good_deed m n d g =
      let ys : List ℕ = fixed 131072 (M.apply d (directory_in n)) in
      let l = g.0 in
      (put_long n ys 200 131072 (omega arith) (length_fixed 131072 (M.apply d (directory_in n))) ∙ l, λ v. w_put 200 131072 n ys (g.1 v) (w_fixed 131072 (M.apply d (directory_in n))))

  good_applied : (m n : List ℕ) (v : Move D) → Good m n → Good m (applied M n v)
  unfolding applied
  good_applied m n v g = good_saved m (deed_done M n v.deed) v.registers (good_deed m n v.deed g)

  good_opening : (m n : List ℕ) (o : Out (Move D)) → Good m n → Good m (opening M n o).memory
  good_opening m n (wants x) g = g
  good_opening m n (came v t) g = g

  good_ended : (m n : List ℕ) (e : End) → Good m n → Good m (ended M n e).memory
  unfolding begun
  good_ended m n Go g = good_opening m n (run_in M n) g
  good_ended m n Done g = g
  good_ended m n (Refused r) g = g

  good_moved : (m n : List ℕ) (v : Move D) → Good m n → Good m (moved M n v).memory
  unfolding moved
  good_moved m n v g = good_ended m (applied M n v) v.end (good_applied m n v g)

  good_turn : (m n : List ℕ) (o : Out (Move D)) → Good m n → Good m (turn M n o).memory
  good_turn m n (wants x) g = g
  good_turn m n (came v t) g = good_moved m n v g

  good_told : (m : List ℕ) (e : Event) → length m ≡ 262144 → Good m (told M m e).memory
  unfolding begun answered
  good_told m (on n) h = good_opening m (saved m (M.boot n)) (run_in M (saved m (M.boot n))) (good_saved m m (M.boot n) (h, λ v. v))
  good_told m (said s) h = good_moved m (heard m s) _ (good_heard m s h)
  good_told m (line l) h = let n : List ℕ = pushed m (words_in (tidy l)) in good_turn m n (run_in M n) (good_pushed m (words_in (tidy l)) h (words_long (tidy l)) (w_line (tidy l) (tidy_line l)))
  good_told m next h = let n : List ℕ = pushed m (words_in blank) in good_turn m n (run_in M n) (good_pushed m (words_in blank) h (words_long blank) (w_line blank blank_line))

  kept : (m : List ℕ) (e : Event) → (length (stepped M m e).memory ≡ length m) × (all_small m ≡ true → all_small (stepped M m e).memory ≡ true)
  kept m e = go (eqb (length m) 262144) refl
    where
      go : (b : Bool) → eqb (length m) 262144 ≡ b
          → (length (pick b (told M m e) (doing m (refused 0))).memory ≡ length m) × (all_small m ≡ true → all_small (pick b (told M m e) (doing m (refused 0))).memory ≡ true)
      go true q =
          let h : length m ≡ 262144 = eqb-true _ _ q in
          let g = good_told m e h in
          (g.0 ∙ sym h, λ s. words_to _ (g.1 (words_from m s)))
      go false q = (refl, λ s. s)

  pub steady : StaysSmall M
  unfolding StaysSmall Steady engine_of
  steady = (subst (λ n. n ≤ 262144) (sym (length_many 262144 0)) (lit≤ tt), all_zero 262144, kept)
