use Rattle.std.proofs.Common.{◌≡◌, ℕ, zero, suc, ◌+◌, ◌*◌, ◌%◌, ◌^◌, ◌<◌, true, ltb, List, [], ◌∷◌, length, get_or, take, refl, ◌∙◌, arith, w8, Fits}
use Rattle.std.proofs.lemmas.Bool.{and_parts, and_from, lt-ltb}
use Rattle.std.proofs.lemmas.Bool.Decides.{nat_tests}
use Rattle.std.proofs.lemmas.Nat.{div-mul-add, mod-mul-add}
use Rattle.plain.specs.Term.{in_bytes, eight, all_bytes}
use Rattle.plain.specs.Read.{number_after, number}

-- what holds of every list of eight, it suffices to show of eight elements
pub of_eight : (P : List ℕ → Type 0) → ((a b c d e f g h : ℕ) → P (a ∷ b ∷ c ∷ d ∷ e ∷ f ∷ g ∷ h ∷ [])) → (bs : List ℕ) → length bs ≡ 8 → P bs
of_eight P q [] l = absurd (omega arith)
of_eight P q (a ∷ []) l = absurd (omega arith)
of_eight P q (a ∷ b ∷ []) l = absurd (omega arith)
of_eight P q (a ∷ b ∷ c ∷ []) l = absurd (omega arith)
of_eight P q (a ∷ b ∷ c ∷ d ∷ []) l = absurd (omega arith)
of_eight P q (a ∷ b ∷ c ∷ d ∷ e ∷ []) l = absurd (omega arith)
of_eight P q (a ∷ b ∷ c ∷ d ∷ e ∷ f ∷ []) l = absurd (omega arith)
of_eight P q (a ∷ b ∷ c ∷ d ∷ e ∷ f ∷ g ∷ []) l = absurd (omega arith)
of_eight P q (a ∷ b ∷ c ∷ d ∷ e ∷ f ∷ g ∷ h ∷ []) l = q a b c d e f g h
of_eight P q (a ∷ b ∷ c ∷ d ∷ e ∷ f ∷ g ∷ h ∷ i ∷ is) l = absurd (omega arith)

pub number_is : (bs : List ℕ) → length bs ≡ 8 → get_or bs 0 0 * 72057594037927936 + get_or bs 1 0 * 281474976710656 + get_or bs 2 0 * 1099511627776 + get_or bs 3 0 * 4294967296 + get_or bs 4 0 * 16777216 + get_or bs 5 0 * 65536 + get_or bs 6 0 * 256 + get_or bs 7 0 ≡ number bs
unfolding number_after
number_is = of_eight _ (λ a b c d e f g h. omega arith)

pub there : (n : ℕ) → n < 2 ^ 64 → number (eight n) ≡ n
unfolding in_bytes number_after
there n h = omega arith

one_more : (k n b : ℕ) (bs : List ℕ) → b < 256 → in_bytes (suc k) (n * 256 + b) bs ≡ in_bytes k n (b ∷ bs)
unfolding in_bytes
one_more k n b bs h = rw (div-mul-add n 256 b h, mod-mul-add n 256 b h)

top : (a : ℕ) (bs : List ℕ) → a < 256 → in_bytes 1 (0 + a) bs ≡ a ∷ bs
unfolding in_bytes
top a bs h = let e : (0 + a) % 256 ≡ a = omega arith in rw e

pub head_fits : (b : ℕ) (bs : List ℕ) → all_bytes (b ∷ bs) ≡ true → (b < 256) × (all_bytes bs ≡ true)
head_fits b bs q = (grind (arith, nat_tests), grind (arith, nat_tests))

pub back : (bs : List ℕ) → length bs ≡ 8 → all_bytes bs ≡ true → eight (number bs) ≡ bs
unfolding number_after
back = of_eight _ (λ a b c d e f g h qa.
    let ha = head_fits a (b ∷ c ∷ d ∷ e ∷ f ∷ g ∷ h ∷ []) qa in let hb = head_fits b (c ∷ d ∷ e ∷ f ∷ g ∷ h ∷ []) ha.1 in
    let hc = head_fits c (d ∷ e ∷ f ∷ g ∷ h ∷ []) hb.1 in let hd = head_fits d (e ∷ f ∷ g ∷ h ∷ []) hc.1 in
    let he = head_fits e (f ∷ g ∷ h ∷ []) hd.1 in let hf = head_fits f (g ∷ h ∷ []) he.1 in
    let hg = head_fits g (h ∷ []) hf.1 in let hh = head_fits h [] hg.1 in
    one_more 7 _ h _ hh.0 ∙ (one_more 6 _ g _ hg.0 ∙ (one_more 5 _ f _ hf.0 ∙ (one_more 4 _ e _ he.0 ∙ (one_more 3 _ d _ hd.0
    ∙ (one_more 2 _ c _ hc.0 ∙ (one_more 1 _ b _ hb.0 ∙ top a _ ha.0)))))))

pub eight_long : (n : ℕ) → length (eight n) ≡ 8
unfolding in_bytes
eight_long n = refl

mod_fits : (n : ℕ) → ltb (n % 256) 256 ≡ true
mod_fits n = lt-ltb _ _ (omega arith)

pub eight_bytes : (n : ℕ) → all_bytes (eight n) ≡ true
unfolding in_bytes
eight_bytes n = simp mod_fits

-- a slice of u8 holds bytes
pub bytes_typed : (bs : List ℕ) → ((i : ℕ) → Fits w8 (get_or bs i 0)) → all_bytes bs ≡ true
bytes_typed [] h = refl
bytes_typed (b ∷ bs) h = and_from _ _ (lt-ltb b 256 (h 0).fits) (bytes_typed bs (λ i. h (suc i)))

pub bytes_take : (n : ℕ) (bs : List ℕ) → all_bytes bs ≡ true → all_bytes (take n bs) ≡ true
bytes_take zero bs h = refl
bytes_take (suc n) [] h = refl
bytes_take (suc n) (b ∷ bs) h = let p = and_parts (ltb b 256) (all_bytes bs) h in and_from _ _ p.0 (bytes_take n bs p.1)
