-- A name is checked byte by byte.
use Rattle.std.proofs.Common.{◌≡◌, ℕ, ◌≤◌, ◌==◌, arith, ◌↔◌, Bool, true, false, List, [], ◌∷◌, length, refl, sym, true≢false, All}
use Rattle.std.proofs.lemmas.Bool.{and_parts, and_from, and_right, le-leb, false_from_ne_true}
use Rattle.std.proofs.lemmas.List.Elements.{All-head, All-tail, All-cons, All-nil}
use Rattle.plain.specs.Term.{every}
use Rattle.plain.specs.Commands.{a_name}
use Rattle.spelling.specs.Meaning.{name_byte}

pub every_all : (t : List ℕ) → every name_byte t ≡ true → All (λ b. name_byte b ≡ true) t
every_all [] h = All-nil (λ b. name_byte b ≡ true)
every_all (x ∷ t) h = let p = and_parts (name_byte x) (every name_byte t) h in All-cons (λ b. name_byte b ≡ true) x t p.0 (every_all t p.1)

pub all_every : (t : List ℕ) → All (λ b. name_byte b ≡ true) t → every name_byte t ≡ true
all_every [] h = refl
all_every (x ∷ t) h = and_from _ _ (All-head (λ b. name_byte b ≡ true) x t h) (all_every t (All-tail (λ b. name_byte b ≡ true) x t h))

not_empty : (t : List ℕ) → ◌==◌ (length t) 0 ≡ false → 1 ≤ length t
not_empty [] h = absurd (true≢false h)
not_empty (x ∷ t) h = omega arith

pub name_is : (t : List ℕ) (b : Bool) → ◌==◌ (length t) 0 ≡ false → length t ≤ 64 → (b ≡ true ↔ All (λ c. name_byte c ≡ true) t) → b ≡ a_name t
name_is t true h k e = sym (and_from _ _ (and_from _ _ (le-leb 1 (length t) (not_empty t h)) (le-leb _ 64 k)) (all_every t (e.0 refl)))
name_is t false h k e = sym (and_right _ _ (false_from_ne_true _ (λ i. true≢false (sym (e.1 (every_all t i))))))
