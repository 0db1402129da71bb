-- What memory is read as, and what is written to it, part by part.
use Rattle.std.proofs.Common.{◌≡◌, ℕ, zero, suc, ◌+◌, ◌-◌, ◌*◌, ◌<◌, ◌≤◌, min, Bool, true, false, leb, List, [], ◌∷◌, ◌++◌, length, get_or, take, drop, ltb, replicate, refl, sym, ap, ◌∙◌, ap₂, append-nil, arith}
use Rattle.std.proofs.lemmas.Bool.{leb-true, leb-false, and_parts, and_from}
use Rattle.std.proofs.lemmas.List.{length-append, length-drop, length-take-le, take_all, take-append-le, take-replicate, drop-replicate}
use Rattle.std.proofs.Math.Seq.{take-append-add}
use Rattle.plain.specs.Term.{all_bytes}
use Rattle.plain.proofs.EightBytes.{bytes_take}
use Rattle.plain.proofs.Many.{length_many}
use Rattle.lines.proofs.Words.{bytes_drop, number_small}
use Rattle.plain.specs.Device.{Line, so_many_of}
use Rattle.plain.specs.Read.{number}
use Rattle.programs.specs.Prog.{Out, replay}
use Rattle.lines.specs.Words.{answers, words_of}
use Rattle.machine.specs.declared.stages.Move.{Move}
use Rattle.machine.specs.Memory.{small, part, put_at, registers_in, command_in, directory_in, tape_in, packed, heard}
use Rattle.machine.specs.Model.{Model}
use Rattle.machine.specs.Engine.{run_in}

-- the stage is run against the tape
pub tape_so : (m : List ℕ) (n k : ℕ) (t : List Line) → n ≡ min (get_or m 0 0) 16359 → k ≡ 8 * n → t ≡ answers (part 131272 k m) 0 → t ≡ tape_in m
unfolding tape_in
tape_so m n k t e f h = h ∙ ap (λ j. answers (part 131272 j m) 0) (f ∙ ap (λ i. 8 * i) e)

pub run_so : {D : Type 0} (M : Model D) (m rs cs ds : List ℕ) (t : List Line) (o : Out (Move D)) → rs ≡ registers_in m → cs ≡ command_in m → ds ≡ directory_in m → t ≡ tape_in m
    → replay (M.stage rs cs ds) t ≡ o → run_in M m ≡ o
unfolding run_in
run_so M m rs cs ds t o a b c e h = rw (← a, ← b, ← c, ← e) h

-- bytes as words
pub packed_words : (n : ℕ) (bs : List ℕ) → length bs ≡ 8 * n → all_bytes bs ≡ true → words_of n bs ≡ packed n bs
unfolding packed words_of
packed_words zero bs l h = refl
packed_words (suc n) bs l h =
    let s = number_small (take 8 bs) (length-take-le 8 bs (omega arith)) (bytes_take 8 bs h) in
    let z : number (take 8 bs) ≡ small (number (take 8 bs)) = omega arith in
    ap₂ (λ w ws. w ∷ ws) z (packed_words n (drop 8 bs) (length-drop 8 bs ∙ omega arith) (bytes_drop 8 bs h))

-- a command's bytes, filled up
pub many_is : (n : ℕ) → replicate {A = ℕ} n 0 ≡ so_many_of n 0
unfolding so_many_of
many_is zero = refl
many_is (suc n) = ap (λ xs. 0 ∷ xs) (many_is n)

pub drop_many : (k n : ℕ) → drop {A = ℕ} k (so_many_of n 0) ≡ so_many_of (n - k) 0
drop_many k n = ap (λ xs. drop k xs) (sym (many_is n)) ∙ (drop-replicate k n 0 ∙ many_is (n - k))

pub take_many : (k n : ℕ) → k ≤ n → take {A = ℕ} k (so_many_of n 0) ≡ so_many_of k 0
take_many k n h = ap (λ xs. take k xs) (sym (many_is n)) ∙ (take-replicate k n 0 h ∙ many_is k)

pub filled : (text row : List ℕ) (n : ℕ) → n ≡ min (length text) 1088 → row ≡ take n text → row ++ drop n (replicate 1088 0) ≡ take 1088 (text ++ so_many_of 1088 0)
filled text row n e f = rw (f, many_is 1088, drop_many n 1088) (go (leb 1088 (length text)) refl)
  where
    go : (b : Bool) → leb 1088 (length text) ≡ b → take n text ++ so_many_of (1088 - n) 0 ≡ take 1088 (text ++ so_many_of 1088 0)
    go true h =
        let l : 1088 ≤ length text = leb-true _ _ h in
        let z : n ≡ 1088 = omega arith in
        rw (z, take-append-le 1088 text (so_many_of 1088 0) l) (unfold so_many_of in append-nil (take 1088 text))
    go false h =
        let l : length text < 1088 = leb-false _ _ h in
        let z : n ≡ length text = omega arith in
        let q : length text + (1088 - length text) ≡ 1088 = omega arith in
        rw (z, take_all (length text) text (omega arith), ← (ap (λ j. take j (text ++ so_many_of 1088 0)) q), take-append-add text (so_many_of 1088 0) (1088 - length text), take_many (1088 - length text) 1088 (omega arith))

filled_bytes : (text : List ℕ) (n : ℕ) → all_bytes text ≡ true → all_bytes (text ++ so_many_of n 0) ≡ true
unfolding so_many_of
filled_bytes [] zero h = refl
filled_bytes [] (suc n) h = filled_bytes [] n h
filled_bytes (b ∷ bs) n h = let p = and_parts (ltb b 256) (all_bytes bs) h in and_from (ltb b 256) _ p.0 (filled_bytes bs n p.1)

-- what is heard, in words
pub heard_words : (m text bs ws : List ℕ) → all_bytes text ≡ true → bs ≡ take 1088 (text ++ so_many_of 1088 0) → ws ≡ words_of 136 bs → put_at 64 136 m ws ≡ heard m text
unfolding heard
heard_words m text bs ws h e f =
    let l = length-append text (so_many_of 1088 0) in
    let k = length_many {A = ℕ} 1088 0 in
    let n : length bs ≡ 8 * 136 = ap length e ∙ length-take-le 1088 (text ++ so_many_of 1088 0) (omega arith) in
    ap (λ xs. put_at 64 136 m xs) (f ∙ (packed_words 136 bs n (rw e (bytes_take 1088 (text ++ so_many_of 1088 0) (filled_bytes text 1088 h))) ∙ ap (λ xs. packed 136 xs) e))
