-- Words and their bytes, there and back.
use Rattle.std.proofs.Common.{◌≡◌, ℕ, zero, suc, ◌+◌, ◌*◌, ◌/◌, ◌%◌, ◌^◌, ◌<◌, ◌≤◌, true, eqb, ltb, List, [], ◌∷◌, ◌++◌, length, get_or, set, take, drop, map, flat_map, sym, refl, ap, ◌∙◌, ap₂, w64, arith}
use Rattle.std.proofs.lemmas.Bool.{and_parts, eq-eqb, ne_eqb, eqb-true}
use Rattle.std.specs.Simd.{first_chunks}
use Rattle.std.specs.Int.{from_be_bytes}
use Rattle.programs.specs.Machine.{tidy, blank}
use Rattle.programs.proofs.Fate.{tidy_line}
use Rattle.std.proofs.lemmas.List.{drop_all, drop-drop, take_more_set, map_more, take_all, length-append, length-take-le, length-drop, length-set, take_at, take-append-drop}
use Rattle.plain.specs.Term.{all_bytes, in_bytes, eight}
use Rattle.plain.specs.Read.{number_after, number}
use Rattle.plain.specs.Device.{so_many_of}
use Rattle.plain.proofs.EightBytes.{of_eight, head_fits, there, back, number_is, eight_long, bytes_take}
use Rattle.lines.specs.Words.{HoldsLine, bytes_of, number_line, word_at, words_in, words_of}

pub first_eight : (w : ℕ) (ws : List ℕ) → take 8 (bytes_of (w ∷ ws)) ≡ eight w
unfolding bytes_of
first_eight w ws = take_at (eight w) (bytes_of ws) 8 (eight_long w)

pub first_word : (ws : List ℕ) → length ws ≡ 8 → get_or ws 0 0 < 2 ^ 64 → number (take 8 (bytes_of ws)) ≡ get_or ws 0 0
first_word [] l h = absurd (omega arith)
first_word (w ∷ ws) l h = ap number (first_eight w ws) ∙ there w h

pub with_number : (n : ℕ) → bytes_of (n ∷ 0 ∷ 0 ∷ 0 ∷ 0 ∷ 0 ∷ 0 ∷ 0 ∷ []) ≡ number_line n
unfolding bytes_of number_line in_bytes so_many_of
with_number n = refl

pub length_bytes : (ws : List ℕ) → length (bytes_of ws) ≡ 8 * length ws
unfolding bytes_of
length_bytes [] = refl
length_bytes (w ∷ ws) = length-append (eight w) (bytes_of ws) ∙ (let a = eight_long w in let b = length_bytes ws in omega arith)

-- words of bytes, one after the other
pub chunk_long : (bs : List ℕ) (chunks : List (List ℕ)) (i : ℕ) → chunks ≡ first_chunks 8 (length bs / 8) bs → i < length chunks → length (get_or chunks i []) ≡ 8
chunk_long bs chunks i e h = rw (← e) at (go (length bs / 8) bs i (omega arith) (rw e at h))
  where
    go : (n : ℕ) (bs : List ℕ) (i : ℕ) → 8 * n ≤ length bs → i < length (first_chunks 8 n bs) → length (get_or (first_chunks 8 n bs) i []) ≡ 8
    go zero bs i l h = absurd (omega arith)
    go (suc n) bs zero l h = length-take-le 8 bs (omega arith)
    go (suc n) bs (suc i) l h = let q = length-drop 8 bs in go n (drop 8 bs) i (omega arith) (omega (arith, h))

module _ (words : List ℕ) (chunks : List (List ℕ)) (i : ℕ) where
  pub word_again : (w : ℕ) → i < length chunks → (length words ≡ length chunks) × (take i words ≡ map number (take i chunks)) → length (get_or chunks i []) ≡ 8
      → w ≡ from_be_bytes w64 (get_or chunks i []) → (length (set words i w) ≡ length chunks) × (take (i + 1) (set words i w) ≡ map number (take (i + 1) chunks))
  word_again w h inv l e = (
    length-set words i w ∙ inv.0,
    take_more_set words i w (omega (arith, inv.0)) ∙ (ap₂ (λ ws v. ws ++ v ∷ []) inv.1 (e ∙ number_is (get_or chunks i []) l) ∙ sym (map_more number chunks i [] h)),
  )

  pub words_all : (bs : List ℕ) (n : ℕ) → length bs ≡ 8 * n → length chunks ≤ i → (length words ≡ length chunks) × (take i words ≡ map number (take i chunks))
      → chunks ≡ first_chunks 8 (length bs / 8) bs → words ≡ words_of n bs
  unfolding words_of
  words_all bs n l h inv e =
      let z : length bs / 8 ≡ n = omega arith in
      sym (take_all i words (omega (arith, inv.0))) ∙ (inv.1 ∙ ap (λ cs. map number cs) (take_all i chunks h ∙ (e ∙ ap (λ k. first_chunks 8 k bs) z)))

pub line_words : (l : List ℕ) → words_of 8 l ≡ words_in l
unfolding words_of words_in word_at
line_words l = simp drop-drop

-- a line of the words that its bytes make
pub bytes_drop : (i : ℕ) (bs : List ℕ) → all_bytes bs ≡ true → all_bytes (drop i bs) ≡ true
bytes_drop zero bs h = h
bytes_drop (suc i) [] h = h
bytes_drop (suc i) (b ∷ bs) h = bytes_drop i bs (and_parts (ltb b 256) (all_bytes bs) h).1

pub all_of : (bs : List ℕ) (i : ℕ) → all_bytes bs ≡ true → all_bytes (take 8 (drop i bs)) ≡ true
all_of bs i h = bytes_take 8 (drop i bs) (bytes_drop i bs h)

word_back : (bs : List ℕ) (i : ℕ) → all_bytes bs ≡ true → i + 8 ≤ length bs → eight (word_at bs i) ≡ take 8 (drop i bs)
unfolding word_at
word_back bs i e h = back (take 8 (drop i bs)) (length-take-le 8 (drop i bs) (simp length-drop (omega arith))) (all_of bs i e)

cut : (l : List ℕ) (i : ℕ) → take 8 (drop i l) ++ drop (i + 8) l ≡ drop i l
cut l i = ap (λ xs. take 8 (drop i l) ++ xs) (sym (drop-drop 8 i l)) ∙ take-append-drop 8 (drop i l)

pub bytes_back : (l : List ℕ) → length l ≡ 64 → all_bytes l ≡ true → bytes_of (words_in l) ≡ l
unfolding bytes_of words_in
bytes_back l n e =
    rw (
      word_back l 0 e (omega arith),
      word_back l 8 e (omega arith),
      word_back l 16 e (omega arith),
      word_back l 24 e (omega arith),
      word_back l 32 e (omega arith),
      word_back l 40 e (omega arith),
      word_back l 48 e (omega arith),
      word_back l 56 e (omega arith),
      ← (drop_all 64 l (omega arith)),
      cut l 56,
      cut l 48,
      cut l 40,
      cut l 32,
      cut l 24,
      cut l 16,
      cut l 8,
    ) (cut l 0)

pub line_back : (l : List ℕ) → length l ≡ 64 → all_bytes l ≡ true → tidy l ≡ l
unfolding tidy
line_back l n e = rw (eq-eqb (length l) 64 n, e)

pub no_line : (l : List ℕ) → (length l ≡ 64 → ⊥) → tidy l ≡ blank
unfolding tidy
no_line l n = rw (ne_eqb (length l) 64 n)

pub blank_words : words_in blank ≡ 0 ∷ 0 ∷ 0 ∷ 0 ∷ 0 ∷ 0 ∷ 0 ∷ 0 ∷ []
unfolding words_in word_at blank so_many_of number_after
blank_words = refl

-- what is taken for a line has the bytes of its words
pub tidy_back : (l : List ℕ) → bytes_of (words_in (tidy l)) ≡ tidy l
tidy_back l = let a = and_parts (eqb (length (tidy l)) 64) (all_bytes (tidy l)) (tidy_line l) in bytes_back (tidy l) (eqb-true (length (tidy l)) 64 a.0) a.1

-- the words decide the bytes
pub holds_line : (bytes ws : List ℕ) → ws ≡ words_in (tidy bytes) → HoldsLine (record { words = ws }) bytes
holds_line bytes ws e = record { words = e; line = ap bytes_of e ∙ tidy_back bytes }

-- bytes of words, one after the other
pub flat_bytes : (words : List ℕ) (chunks : List (List ℕ)) → length chunks ≡ length words → ((i : ℕ) → i < length words → get_or chunks i [] ≡ eight (get_or words i 0)) → flat_map (λ x. x) chunks ≡ bytes_of words
unfolding bytes_of
flat_bytes [] [] l e = refl
flat_bytes [] (c ∷ cs) l e = absurd (omega arith)
flat_bytes (w ∷ ws) [] l e = absurd (omega arith)
flat_bytes (w ∷ ws) (c ∷ cs) l e = ap₂ (λ xs ys. xs ++ ys) (e 0 (omega arith)) (flat_bytes ws cs (omega arith) (λ i h. e (suc i) (omega arith)))

pub eight_is : (n : ℕ) → (n / 72057594037927936 % 256) ∷ (n / 281474976710656 % 256) ∷ (n / 1099511627776 % 256) ∷ (n / 4294967296 % 256) ∷ (n / 16777216 % 256) ∷ (n / 65536 % 256) ∷ (n / 256 % 256) ∷ (n % 256) ∷ [] ≡ eight n
unfolding in_bytes
eight_is n =
    let a : n / 65536 ≡ n / 256 / 256 = omega arith in
    let b : n / 16777216 ≡ n / 256 / 256 / 256 = omega arith in
    let c : n / 4294967296 ≡ n / 256 / 256 / 256 / 256 = omega arith in
    let d : n / 1099511627776 ≡ n / 256 / 256 / 256 / 256 / 256 = omega arith in
    let e : n / 281474976710656 ≡ n / 256 / 256 / 256 / 256 / 256 / 256 = omega arith in
    let f : n / 72057594037927936 ≡ n / 256 / 256 / 256 / 256 / 256 / 256 / 256 = omega arith in
    rw (a, b, c, d, e, f)

-- a number of eight bytes is small
pub number_small : (bs : List ℕ) → length bs ≡ 8 → all_bytes bs ≡ true → number bs < 18446744073709551616
unfolding number_after
number_small = of_eight _ (λ a b c d e f g h q.
    let pa = head_fits a (b ∷ c ∷ d ∷ e ∷ f ∷ g ∷ h ∷ []) q in let pb = head_fits b (c ∷ d ∷ e ∷ f ∷ g ∷ h ∷ []) pa.1 in
    let pc = head_fits c (d ∷ e ∷ f ∷ g ∷ h ∷ []) pb.1 in let pd = head_fits d (e ∷ f ∷ g ∷ h ∷ []) pc.1 in
    let pe = head_fits e (f ∷ g ∷ h ∷ []) pd.1 in let pf = head_fits f (g ∷ h ∷ []) pe.1 in
    let pg = head_fits g (h ∷ []) pf.1 in let ph = head_fits h [] pg.1 in
    omega (arith, pa.0, pb.0, pc.0, pd.0, pe.0, pf.0, pg.0, ph.0))
