-- Lists of bytes, and what the readers of plain's specs come to on them: the facts that the code's proofs share.
use Rattle.std.proofs.Common.{◌≡◌, ℕ, zero, suc, ◌+◌, ◌<◌, ◌≤◌, Bool, true, false, ◌&&◌, ltb, leb, ◌≢◌, List, [], ◌∷◌, ◌++◌, length, take, drop, Some, None, Option, Ok, Err, Result, refl, sym, ◌∙◌, arith, MatchOption, OkIff}
use Rattle.std.specs.Bool.{then_some}
use Rattle.std.specs.Borrow.{Bor}
use Rattle.std.specs.Result.{result_ok}
use Rattle.std.proofs.lemmas.Bool.{and_parts, and_from, and_right, lt-ltb, le-ltb, le-leb, lt-leb, ltb-true}
use Rattle.std.proofs.lemmas.Option.{none-some, same_Some}
use Rattle.plain.specs.Term.{eight, with_length, all_bytes}
use Rattle.plain.specs.Commands.{on_sheet}
use Rattle.plain.specs.Read.{Got, got, nothing, only, one, number, read_eight, read_counted, flag, value_tag}
use Rattle.spelling.specs.Meaning.{Reads}
use Rattle.plain.proofs.EightBytes.{bytes_take}
use Rattle.plain.proofs.Parts.{given, one_gives, counted_gives}

pub one_none : (bs : List ℕ) → length bs ≡ 0 → one bs ≡ nothing
unfolding one
one_none [] h = refl
one_none (b ∷ bs) h = absurd (omega arith)

bytes_append : (a b : List ℕ) → all_bytes (a ++ b) ≡ true → (all_bytes a ≡ true) × (all_bytes b ≡ true)
bytes_append [] b h = (refl, h)
bytes_append (x ∷ a) b h = let p = and_parts (ltb x 256) (all_bytes (a ++ b)) h in let q = bytes_append a b p.1 in (and_from _ _ p.0 q.0, q.1)

pub eight_none : (bs : List ℕ) → length bs < 8 → read_eight bs ≡ nothing
unfolding read_eight only
eight_none bs h = rw (lt-leb 8 (length bs) h)

pub eight_here : (bs : List ℕ) (n : ℕ) → 8 ≤ length bs → all_bytes bs ≡ true → n ≡ number (take 8 bs) → read_eight bs ≡ got n (drop 8 bs)
unfolding read_eight only
eight_here bs n l h e = rw (le-leb 8 (length bs) l, bytes_take 8 bs h, e)

pub flag_none : (b : ℕ) (bs : List ℕ) → b ≢ 0 → b ≢ 1 → flag b bs ≡ nothing
flag_none zero bs h k = absurd (h refl)
flag_none (suc zero) bs h k = absurd (k refl)
flag_none (suc (suc n)) bs h k = refl

pub one_fits : (bs r : List ℕ) (b : ℕ) → all_bytes bs ≡ true → one bs ≡ got b r → b < 256
one_fits bs r b h e = let i = given b r (one_gives bs) e in let h₁ : all_bytes (b ∷ r) ≡ true = rw i at h in ltb-true b 256 (and_parts (ltb b 256) (all_bytes r) h₁).0

pub on_sheet_in : (c r : ℕ) → c < 256 → r < 65536 → on_sheet c r ≡ true
on_sheet_in c r h k = and_from _ _ (lt-ltb c 256 h) (lt-ltb r 65536 k)

pub on_sheet_out : (c r : ℕ) → ¬ (r < 65536) → on_sheet c r ≡ false
on_sheet_out c r k = and_right _ _ (le-ltb r 65536 (omega arith))

-- what a conversion that was tried says of the number
pub ok_is : {P : Type 0} {E : Type 0} {m n : ℕ} (r : Result ℕ E) → Some m ≡ result_ok r → OkIff r P n → P × (m ≡ n)
ok_is (Ok k) e h = (h.0, same_Some _ _ e ∙ h.1)
ok_is (Err x) e h = absurd (none-some _ (sym e))

pub none_is : {P : Type 0} {E : Type 0} (n : ℕ) (r : Result ℕ E) → None ≡ result_ok r → OkIff r P n → ¬ P
none_is n (Ok k) e h = absurd (none-some k e)
none_is n (Err x) e h = h

-- what is read only where something holds
pub only_if : {A V : Type 0} (meaning : A → V) (b : Bool) (p : A × Bor (List ℕ)) → Reads meaning (only b (got (meaning p.0) p.1.now)) (then_some b p)
unfolding only
only_if meaning true p = refl
only_if meaning false p = refl

pub too_many : {A : Type 0} (n most : ℕ) (t : Bool) (g : Got A) → most < n → only (leb n most && t) g ≡ nothing
unfolding only
too_many n most t g h = rw (lt-leb n most h)

-- what a split at n gives, as the reader of counted bytes says it
pub counted_here : {X : Type 0} (n most : ℕ) (bs : List ℕ) (o : Option X) (f g : X → List ℕ) → n ≤ most →
    MatchOption o (length bs < n) (λ p. (n ≤ length bs) × (f p ≡ take n bs) × (g p ≡ drop n bs) × (length (f p) ≡ n) × (length (g p) + n ≡ length bs)) →
    MatchOption o (only (leb n most && leb n (length bs)) (got (take n bs) (drop n bs)) ≡ nothing) (λ p. only (leb n most && leb n (length bs)) (got (take n bs) (drop n bs)) ≡ got (f p) (g p))
unfolding only
counted_here n most bs None f g l h = rw (le-leb n most l, lt-leb n (length bs) h)
counted_here n most bs (Some p) f g l h = rw (le-leb n most l, le-leb n (length bs) h.0, h.1, h.2)

-- a text that was read is of bytes
pub text_fits : (bs r t r₁ : List ℕ) (k most : ℕ) → all_bytes bs ≡ true → one bs ≡ got k r → read_counted most r ≡ got t r₁ → all_bytes t ≡ true
text_fits bs r t r₁ k most h e i =
    let e₁ = given k r (one_gives bs) e in let i₁ = (given t r₁ (counted_gives most r) i).0 in
    let h₁ : all_bytes (k ∷ r) ≡ true = rw e₁ at h in let h₂ = (and_parts (ltb k 256) (all_bytes r) h₁).1 in
    let h₃ : all_bytes (with_length t ++ r₁) ≡ true = rw i₁ at h₂ in
    (bytes_append (eight (length t)) t (bytes_append (with_length t) r₁ h₃).0).1

pub no_value : (k : ℕ) (bs : List ℕ) → k ≢ 1 → k ≢ 2 → k ≢ 3 → value_tag k bs ≡ nothing
no_value zero bs a b c = refl
no_value (suc zero) bs a b c = absurd (a refl)
no_value (suc (suc zero)) bs a b c = absurd (b refl)
no_value (suc (suc (suc zero))) bs a b c = absurd (c refl)
no_value (suc (suc (suc (suc n)))) bs a b c = refl
