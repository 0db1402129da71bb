-- What is saved, pushed and heard is there afterwards, and all else is as it was.
use Rattle.std.proofs.Common.{◌≡◌, ℕ, zero, suc, ◌+◌, ◌-◌, ◌*◌, ◌/◌, ◌<◌, ◌≤◌, min, List, [], ◌∷◌, ◌++◌, length, get_or, take, drop, set, sym, refl, ap, ◌∙◌, arith}
use Rattle.std.proofs.lemmas.List.{length-append, length-take-le, length-drop, length-set, take-append-le, drop-append-le, take_at, drop_at, drop-drop, drop-take, get_or-take, get_or-set_same, drop-set-lt, take_all}
use Rattle.std.proofs.lemmas.Slice.{take-put_mid_below, take-put_mid, drop-put_mid}
use Rattle.plain.specs.Device.{so_many_of}
use Rattle.lines.specs.Words.{bytes_of, lines_in, answers}
use Rattle.machine.specs.Memory.{fixed, part, put_at, registers_in, command_in, directory_in, tape_in, saved, pushed, heard, packed, command_of}
use Rattle.machine.proofs.Parts.{length_fixed}

-- a part that lies before, or behind, what is put in
module _ (m ys : List ℕ) (a k : ℕ) (h : a + k ≤ length m) (l : length ys ≡ k) where
  front_long : length (take a m) ≡ a
  front_long = length-take-le a m (omega arith)

  pub part_before : (b j : ℕ) → b + j ≤ a → part b j (put_at a k m ys) ≡ part b j m
  part_before b j q =
      sym (drop-take b j (put_at a k m ys)) ∙ (ap (λ xs. drop b xs) (take-put_mid_below a k m ys (b + j) q (omega arith)) ∙ drop-take b j m)

  pub part_here : part a k (put_at a k m ys) ≡ ys
  part_here = ap (λ xs. take k xs) (drop_at (take a m) (ys ++ drop k (drop a m)) a front_long) ∙ take_at ys (drop k (drop a m)) k l

  pub part_behind : (b j : ℕ) → a + k ≤ b → part b j (put_at a k m ys) ≡ part b j m
  part_behind b j q = ap (λ xs. take j xs) (drop-put_mid a k m ys b q (omega arith) l)

  pub put_long : length (put_at a k m ys) ≡ length m
  put_long =
      length-append (take a m) (ys ++ drop k (drop a m))
      ∙ (let p = length-append ys (drop k (drop a m)) in let q = length-drop k (drop a m) in let r = length-drop a m in let t = front_long in omega arith)

-- WHAT IS SAVED: the registers, and no answer
module _ (m rs : List ℕ) (h : length m ≡ 262144) where
  behind : (n : ℕ) → 64 ≤ n → drop n (saved m rs) ≡ drop n m
  unfolding saved
  behind n q =
      let f = length_fixed 63 rs in
      let z : 64 + (n - 64) ≡ n = omega arith in
      cut (saved m rs) z ∙ (ap (λ xs. drop (n - 64) xs) (drop_at (0 ∷ fixed 63 rs) (drop 64 m) 64 (omega arith)) ∙ sym (cut m z))
    where
      cut : (xs : List ℕ) → 64 + (n - 64) ≡ n → drop n xs ≡ drop (n - 64) (drop 64 xs)
      cut xs z = ap (λ i. drop i xs) (sym z) ∙ sym (drop-drop (n - 64) 64 xs)

  pub saved_long : length (saved m rs) ≡ 262144
  unfolding saved
  saved_long = length-append (0 ∷ fixed 63 rs) (drop 64 m) ∙ (let f = length_fixed 63 rs in let d = length-drop 64 m in omega arith)

  pub saved_registers : registers_in (saved m rs) ≡ fixed 63 rs
  unfolding saved registers_in
  saved_registers = take_at (fixed 63 rs) (drop 64 m) 63 (length_fixed 63 rs)

  pub saved_command : command_in (saved m rs) ≡ command_in m
  unfolding command_in
  saved_command = ap (λ xs. take 136 xs) (behind 64 (omega arith))

  pub saved_directory : directory_in (saved m rs) ≡ directory_in m
  unfolding directory_in
  saved_directory = ap (λ xs. take 131072 xs) (behind 200 (omega arith))

  pub saved_count : get_or (saved m rs) 0 0 ≡ 0
  unfolding saved
  saved_count = refl

  pub saved_tape : tape_in (saved m rs) ≡ []
  unfolding tape_in saved answers lines_in
  saved_tape = refl

-- WHAT IS PUSHED: one answer more, and all before the tape stays
lines_push : (n : ℕ) (xs ws : List ℕ) → length xs ≡ 8 * n → length ws ≡ 8 → lines_in (suc n) (xs ++ ws) ≡ lines_in n xs ++ bytes_of ws ∷ []
unfolding lines_in
lines_push zero [] ws h l = ap (λ ys. bytes_of ys ∷ []) (take_all 8 ws (omega arith))
lines_push zero (x ∷ xs) ws h l = absurd (omega arith)
lines_push (suc n) xs ws h l =
    let q : 8 ≤ length xs = omega arith in
    let d = length-drop 8 xs in
    rw (take-append-le 8 xs ws q, drop-append-le 8 xs ws q) (ap (λ ys. bytes_of (take 8 xs) ∷ ys) (lines_push n (drop 8 xs) ws (omega arith) l))

answers_push : (n : ℕ) (xs ws : List ℕ) → length xs ≡ 8 * n → length ws ≡ 8 → answers (xs ++ ws) 0 ≡ answers xs 0 ++ bytes_of ws ∷ []
unfolding answers
answers_push n xs ws h l =
    let a = length-append xs ws in
    let p : length (xs ++ ws) / 8 - 0 ≡ suc n = omega arith in
    let q : length xs / 8 - 0 ≡ n = omega arith in
    rw (p, q) (lines_push n xs ws h l)

module _ (m ws : List ℕ) (h : length m ≡ 262144) (lw : length ws ≡ 8) where
  abbrev count : ℕ
  count = min (get_or m 0 0) 16358

  abbrev counted : List ℕ
  counted = set m 0 (count + 1)

  counted_long : length counted ≡ 262144
  counted_long = length-set m 0 (count + 1) ∙ h

  fits_in : (131272 + 8 * count) + 8 ≤ length counted
  fits_in = let l = counted_long in omega arith

  pub pushed_long : length (pushed m ws) ≡ 262144
  unfolding pushed
  pushed_long = put_long counted ws (131272 + 8 * count) 8 fits_in lw ∙ counted_long

  pushed_part : (a k : ℕ) → 0 < a → a + k ≤ 131272 → part a k (pushed m ws) ≡ part a k m
  unfolding pushed
  pushed_part a k p q = part_before counted ws (131272 + 8 * count) 8 fits_in lw a k (omega arith) ∙ ap (λ xs. take k xs) (drop-set-lt a m 0 (count + 1) p)

  pub pushed_registers : registers_in (pushed m ws) ≡ registers_in m
  unfolding registers_in
  pushed_registers = pushed_part 1 63 (omega arith) (omega arith)

  pub pushed_command : command_in (pushed m ws) ≡ command_in m
  unfolding command_in
  pushed_command = pushed_part 64 136 (omega arith) (omega arith)

  pub pushed_directory : directory_in (pushed m ws) ≡ directory_in m
  unfolding directory_in
  pushed_directory = pushed_part 200 131072 (omega arith) (omega arith)

  pub pushed_count : get_or (pushed m ws) 0 0 ≡ count + 1
  unfolding pushed
  pushed_count =
      let l = counted_long in
      sym (get_or-take 1 (put_at (131272 + 8 * count) 8 counted ws) 0 0 (omega arith))
      ∙ (ap (λ xs. get_or xs 0 0) (take-put_mid_below (131272 + 8 * count) 8 counted ws 1 (omega arith) (omega arith))
      ∙ (get_or-take 1 counted 0 0 (omega arith) ∙ get_or-set_same m 0 (count + 1) 0 (omega arith)))

  module _ (room : get_or m 0 0 < 16359) where
    words_more : part 131272 (8 * count + 8) (pushed m ws) ≡ part 131272 (8 * count) m ++ ws
    unfolding pushed
    words_more =
        let p = counted_long in
        let l : length (take (131272 + 8 * count) counted) ≡ 131272 + 8 * count = length-take-le (131272 + 8 * count) counted (omega arith) in
        sym (drop-take 131272 (8 * count + 8) (put_at (131272 + 8 * count) 8 counted ws))
        ∙ (ap (λ xs. drop 131272 xs) (take-put_mid (131272 + 8 * count) 8 counted ws (131272 + (8 * count + 8)) (omega arith) (omega arith))
        ∙ (drop-append-le 131272 (take (131272 + 8 * count) counted) ws (omega arith)
        ∙ ap (λ xs. xs ++ ws) (drop-take 131272 (8 * count) counted ∙ ap (λ xs. take (8 * count) xs) (drop-set-lt 131272 m 0 (count + 1) (omega arith)))))

    pub pushed_tape : tape_in (pushed m ws) ≡ tape_in m ++ bytes_of ws ∷ []
    unfolding tape_in
    pushed_tape =
        let r : min (get_or m 0 0) 16359 ≡ count = omega arith in
        let e : min (get_or (pushed m ws) 0 0) 16359 ≡ count + 1 = ap (λ k. min k 16359) pushed_count ∙ omega arith in
        let z : 8 * (count + 1) ≡ 8 * count + 8 = omega arith in
        rw (e, z, words_more, r)
        (answers_push count (part 131272 (8 * count) m) ws (length-take-le (8 * count) (drop 131272 m) (let d = length-drop 131272 m in omega arith)) lw)

-- WHAT IS HEARD: the command's words, and all else stays
packed_long : (n : ℕ) (bs : List ℕ) → length (packed n bs) ≡ n
unfolding packed
packed_long zero bs = refl
packed_long (suc n) bs = ap suc (packed_long n (drop 8 bs))

module _ (m text : List ℕ) (h : length m ≡ 262144) where
  command_long : length (command_of text) ≡ 136
  command_long = packed_long 136 (take 1088 (text ++ so_many_of 1088 0))

  inside : 64 + 136 ≤ length m
  inside = omega arith

  pub heard_long : length (heard m text) ≡ 262144
  unfolding heard
  heard_long = put_long m (command_of text) 64 136 inside command_long ∙ h

  pub heard_command : command_in (heard m text) ≡ command_of text
  unfolding heard command_in
  heard_command = part_here m (command_of text) 64 136 inside command_long

  pub heard_directory : directory_in (heard m text) ≡ directory_in m
  unfolding heard directory_in
  heard_directory = part_behind m (command_of text) 64 136 inside command_long 200 131072 (omega arith)
