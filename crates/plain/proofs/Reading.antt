-- formulas and commands are read as they are spelled
use Rattle.std.proofs.Common.{◌≡◌, ℕ, zero, suc, ◌-◌, ◌^◌, ◌<◌, ◌≤◌, Bool, true, false, ◌&&◌, ltb, leb, ◌≢◌, ◌⊎◌, List, [], ◌∷◌, ◌++◌, length, Some, None, Option, sym, refl, ap, ◌∙◌, inl, inr, append_assoc, append-nil, arith, length-append}
use Rattle.std.proofs.lemmas.Bool.{false≢true, and_parts, and_from, leb-true, le-leb}
use Rattle.std.proofs.lemmas.Bool.Decides.{nat_tests}
use Rattle.plain.specs.Term.{pick, eight, with_length, Term, Terms, const, cell, area, named, gone, opposite, bin, call, no_terms, term_and, larger}
use Rattle.plain.specs.Sheet.{Place}
use Rattle.plain.specs.Commands.{Command, set_cell, wipe, show, rows, written, name, unname, insert, remove, copy, bit, a_box, a_name, places_of, ref_spelled, box_spelled, count_terms, term_spelled, terms_spelled, spelled, on_sheet, a_ref, a_term, all_terms, a_target, a_formula, depth, depth_all, fits}
use Rattle.plain.specs.Promise.{Said, Never, SpelledOnce}
use Rattle.plain.specs.Read.{Got, got, nothing, then, only, one, so_many, term_tag, read_term, Stretch, a_stretch, read_stretch, target_tag, read_target, command_tag, whole, read_command, Reads, ToldApart}
use Rattle.plain.proofs.Parts.{Gives, gives, gives_none, gives_then, gives_only, given, one_gives, eight_gives, eight_read, flag_gives, flag_read, place_gives, place_read, ref_gives, ref_read, box_gives, box_read, name_gives, name_read, value_gives, value_read, place_spelled}

-- a formula of at most this depth is spelled here
abbrev pub Spells : ℕ → List ℕ → Term → List ℕ → Type 0
Spells f bs t r = (bs ≡ term_spelled t ++ r) × (a_term t ≡ true) × (depth t ≤ f)

abbrev SpellsAll : ℕ → ℕ → List ℕ → Terms → List ℕ → Type 0
SpellsAll n f bs ts r = (bs ≡ terms_spelled ts ++ r) × (all_terms ts ≡ true) × (depth_all ts ≤ f) × (count_terms ts ≡ n)

larger_le : (a b f : ℕ) → a ≤ f → b ≤ f → larger a b ≤ f
larger_le a b f h k = grind (arith, nat_tests)

le_larger : (a b f : ℕ) → larger a b ≤ f → (a ≤ f) × (b ≤ f)
le_larger a b f h = (grind (arith, nat_tests), grind (arith, nat_tests))

all_give : (n f : ℕ) (go : List ℕ → Got Term) → ((bs : List ℕ) → Gives (Spells f bs) (go bs)) → (bs : List ℕ) → Gives (SpellsAll n f bs) (so_many n go bs)
unfolding so_many terms_spelled all_terms depth_all count_terms
all_give zero f go h bs = gives (refl, refl, omega arith, refl)
all_give (suc n) f go h bs = gives_then (h bs) (λ t bs₁ p. gives_then (all_give n f go h bs₁) (λ ts bs₂ q.
    gives (rw (p.0, q.0) (simp append_assoc), and_from _ _ p.1 q.1, larger_le _ _ _ p.2 q.2, ap suc q.3)))

tag_gives : (f : ℕ) (go : List ℕ → Got Term) → ((bs : List ℕ) → Gives (Spells f bs) (go bs)) → (k : ℕ) (bs : List ℕ) → Gives (Spells (suc f) (k ∷ bs)) (term_tag go k bs)
unfolding term_spelled a_term depth
tag_gives f go h zero bs = gives_then (value_gives bs) (λ v bs₁ p. gives (rw p.0, p.1, omega arith))
tag_gives f go h (suc zero) bs = gives_then (ref_gives bs) (λ a bs₁ p. gives (rw p.0, p.1, omega arith))
tag_gives f go h (suc (suc zero)) bs = gives_then (ref_gives bs) (λ a bs₁ p. gives_then (ref_gives bs₁) (λ b bs₂ q.
    gives (rw (p.0, q.0) (simp append_assoc), and_from _ _ p.1 q.1, omega arith)))
tag_gives f go h (suc (suc (suc zero))) bs = gives_then (name_gives bs) (λ n bs₁ p. gives (rw p.0, p.1, omega arith))
tag_gives f go h (suc (suc (suc (suc zero)))) bs = gives (refl, refl, omega arith)
tag_gives f go h (suc (suc (suc (suc (suc zero))))) bs = gives_then (h bs) (λ t bs₁ p. gives (rw p.0, p.1, omega (arith, p.2)))
tag_gives f go h (suc (suc (suc (suc (suc (suc zero)))))) bs = gives_then (one_gives bs) (λ k bs₁ o. gives_only (λ l. gives_then (h bs₁) (λ a bs₂ p. gives_then (h bs₂) (λ b bs₃ q.
    gives (rw (o, p.0, q.0) (simp append_assoc), and_from _ _ l (and_from _ _ p.1 q.1), omega (arith, larger_le _ _ f p.2 q.2))))))
tag_gives f go h (suc (suc (suc (suc (suc (suc (suc zero))))))) bs = gives_then (one_gives bs) (λ k bs₁ o. gives_only (λ l. gives_then (one_gives bs₁) (λ n bs₂ i. gives_only (λ m.
    gives_then (all_give n f go h bs₂) (λ ts bs₃ p. gives (rw (o, i, p.0, p.3), and_from _ _ l (and_from _ _ (rw p.3 m) p.1), omega (arith, p.2)))))))
tag_gives f go h (suc (suc (suc (suc (suc (suc (suc (suc n)))))))) bs = gives_none

pub term_gives : (f : ℕ) (bs : List ℕ) → Gives (Spells f bs) (read_term f bs)
unfolding read_term
term_gives zero bs = gives_none
term_gives (suc f) bs = gives_then (one_gives bs) (λ k r h. rw h (tag_gives f (λ b. read_term f b) (term_gives f) k r))

-- with fuel, by the tag
pub read_step : (f k : ℕ) (bs : List ℕ) → 0 < f → read_term f (k ∷ bs) ≡ term_tag (λ b. read_term (f - 1) b) k bs
unfolding read_term one
read_step zero k bs h = absurd (omega arith)
read_step (suc f) k bs h = let e : suc f - 1 ≡ f = omega arith in rw e

-- by a tag that is known
pub tagged : (f k t : ℕ) (bs r : List ℕ) → f ≢ 0 → one bs ≡ got t r → t ≡ k → read_term f bs ≡ term_tag (λ b. read_term (f - 1) b) k r
tagged f k t bs r h e i = rw (given t r (one_gives bs) e, i) (read_step f k r (omega arith))

pub read_none : (f : ℕ) (bs : List ℕ) → one bs ≡ nothing → read_term f bs ≡ nothing
unfolding read_term
read_none zero bs e = refl
read_none (suc f) bs e = rw e

pub so_many_step : (n : ℕ) (go : List ℕ → Got Term) (bs : List ℕ) → n ≢ 0 → so_many n go bs ≡ then (go bs) (λ t bs₁. then (so_many (n - 1) go bs₁) (λ ts bs₂. got (term_and t ts) bs₂))
unfolding so_many
so_many_step zero go bs h = absurd (h refl)
so_many_step (suc n) go bs h = let e : suc n - 1 ≡ n = omega arith in rw e

pub no_tag : (go : List ℕ → Got Term) (k : ℕ) (bs : List ℕ) → 8 ≤ k → term_tag go k bs ≡ nothing
no_tag go zero bs h = absurd (omega arith)
no_tag go (suc zero) bs h = absurd (omega arith)
no_tag go (suc (suc zero)) bs h = absurd (omega arith)
no_tag go (suc (suc (suc zero))) bs h = absurd (omega arith)
no_tag go (suc (suc (suc (suc zero)))) bs h = absurd (omega arith)
no_tag go (suc (suc (suc (suc (suc zero))))) bs h = absurd (omega arith)
no_tag go (suc (suc (suc (suc (suc (suc zero)))))) bs h = absurd (omega arith)
no_tag go (suc (suc (suc (suc (suc (suc (suc zero))))))) bs h = absurd (omega arith)
no_tag go (suc (suc (suc (suc (suc (suc (suc (suc n)))))))) bs h = refl

mutual
  unfolding term_spelled a_term depth only so_many terms_spelled all_terms depth_all count_terms one

  pub term_read : (t : Term) (f : ℕ) (bs : List ℕ) → a_term t ≡ true → depth t ≤ f → read_term f (term_spelled t ++ bs) ≡ got t bs
  term_read (const v) f bs o d = read_step f 0 _ (omega arith) ∙ rw (value_read v bs o)
  term_read (cell a) f bs o d = read_step f 1 _ (omega arith) ∙ rw (ref_read a bs o)
  term_read (area a b) f bs o d = let p = and_parts (a_ref a) (a_ref b) o in read_step f 2 _ (omega arith) ∙ rw (append_assoc (ref_spelled a) (ref_spelled b) bs, ref_read a (ref_spelled b ++ bs) p.0, ref_read b bs p.1)
  term_read (named n) f bs o d = read_step f 3 _ (omega arith) ∙ rw (name_read n bs o)
  term_read gone f bs o d = read_step f 4 _ (omega arith)
  term_read (opposite t) f bs o d = read_step f 5 _ (omega arith) ∙ rw (term_read t (f - 1) bs o (omega arith))
  term_read (bin k a b) f bs o d =
      let p = and_parts (ltb k 8) (a_term a && a_term b) o in let q = and_parts (a_term a) (a_term b) p.1 in let m : larger (depth a) (depth b) ≤ f - 1 = omega arith in let l = le_larger (depth a) (depth b) (f - 1) m in
      read_step f 6 _ (omega arith) ∙ rw (p.0, append_assoc (term_spelled a) (term_spelled b) bs, term_read a (f - 1) (term_spelled b ++ bs) q.0 l.0, term_read b (f - 1) bs q.1 l.1)
  term_read (call k ts) f bs o d =
      let p = and_parts (ltb k 10) (leb (count_terms ts) 16 && all_terms ts) o in let q = and_parts (leb (count_terms ts) 16) (all_terms ts) p.1 in
      read_step f 7 _ (omega arith) ∙ rw (p.0, q.0, terms_read ts (f - 1) bs q.1 (omega arith))

  pub terms_read : (ts : Terms) (f : ℕ) (bs : List ℕ) → all_terms ts ≡ true → depth_all ts ≤ f → so_many (count_terms ts) (λ b. read_term f b) (terms_spelled ts ++ bs) ≡ got ts bs
  terms_read no_terms f bs o d = refl
  terms_read (term_and t ts) f bs o d =
      let p = and_parts (a_term t) (all_terms ts) o in let l = le_larger (depth t) (depth_all ts) f d in
      rw (append_assoc (term_spelled t) (terms_spelled ts) bs, term_read t f (terms_spelled ts ++ bs) p.0 l.0, terms_read ts f bs p.1 l.1)

-- commands
abbrev Tells : ℕ → List ℕ → Command → List ℕ → Type 0
Tells k bs c r = (k ∷ bs ≡ spelled c ++ r) × (fits c ≡ true)

abbrev stretch_spelled : Stretch → List ℕ
stretch_spelled s = bit s.along ∷ eight s.place ++ eight s.many

stretch_gives : (bs : List ℕ) → Gives (λ s r. (bs ≡ stretch_spelled s ++ r) × (a_stretch s ≡ true)) (read_stretch bs)
stretch_gives bs = gives_then (flag_gives bs) (λ v bs₁ e. gives_then (eight_gives bs₁) (λ p bs₂ i. gives_then (eight_gives bs₂) (λ n bs₃ j. gives_only (λ o.
    gives (rw (e, i, j) (simp append_assoc), o)))))

stretch_fits : (v : Bool) (p n : ℕ) → ((ltb p (pick v 65536 256) && leb 1 n) && leb n (pick v 65536 256)) ≡ true → (p < 2 ^ 64) × (n < 2 ^ 64)
stretch_fits true p n h = (grind (arith, nat_tests), grind (arith, nat_tests))
stretch_fits false p n h = (grind (arith, nat_tests), grind (arith, nat_tests))

stretch_read : (s : Stretch) (bs : List ℕ) → a_stretch s ≡ true → read_stretch (stretch_spelled s ++ bs) ≡ got s bs
unfolding only
stretch_read s bs o =
    let l = stretch_fits s.along s.place s.many o in
    rw (append_assoc (eight s.place) (eight s.many) bs, flag_read s.along (eight s.place ++ (eight s.many ++ bs)), eight_read s.place (eight s.many ++ bs) l.0, eight_read s.many bs l.1, o)

target_gives₁ : (k : ℕ) (bs : List ℕ) → Gives (λ t r. (k ∷ bs ≡ term_spelled t ++ r) × (a_target t ≡ true)) (target_tag k bs)
unfolding term_spelled a_target
target_gives₁ zero bs = gives_none
target_gives₁ (suc zero) bs = gives_then (ref_gives bs) (λ a bs₁ p. gives (rw p.0, p.1))
target_gives₁ (suc (suc zero)) bs = gives_then (ref_gives bs) (λ a bs₁ p. gives_then (ref_gives bs₁) (λ b bs₂ q. gives (rw (p.0, q.0) (simp append_assoc), and_from _ _ p.1 q.1)))
target_gives₁ (suc (suc (suc n))) bs = gives_none

target_gives : (bs : List ℕ) → Gives (λ t r. (bs ≡ term_spelled t ++ r) × (a_target t ≡ true)) (read_target bs)
target_gives bs = gives_then (one_gives bs) (λ k r h. rw h (target_gives₁ k r))

target_read : (t : Term) (bs : List ℕ) → a_target t ≡ true → read_target (term_spelled t ++ bs) ≡ got t bs
unfolding a_target term_spelled one
target_read (const v) bs o = absurd (false≢true o)
target_read (cell a) bs o = rw (ref_read a bs o)
target_read (area a b) bs o = let p = and_parts (a_ref a) (a_ref b) o in rw (append_assoc (ref_spelled a) (ref_spelled b) bs, ref_read a (ref_spelled b ++ bs) p.0, ref_read b bs p.1)
target_read (named n) bs o = absurd (false≢true o)
target_read gone bs o = absurd (false≢true o)
target_read (opposite t) bs o = absurd (false≢true o)
target_read (bin k a b) bs o = absurd (false≢true o)
target_read (call k ts) bs o = absurd (false≢true o)

formula_fits : (bs r : List ℕ) (t : Term) → leb (length bs) 1024 ≡ true → Spells 32 bs t r → a_formula t ≡ true
formula_fits bs r t o p =
    let l = leb-true (length bs) 1024 o in let e = simp length-append at (ap length p.0) in
    and_from _ _ (and_from _ _ p.1 (le-leb _ _ p.2)) (le-leb _ _ (omega arith))

command_gives : (k : ℕ) (bs : List ℕ) → Gives (Tells k bs) (command_tag k bs)
unfolding spelled fits
command_gives zero bs = gives_none
command_gives (suc zero) bs = gives_then (place_gives bs) (λ p bs₁ h. gives_only (λ o. gives_then (term_gives 32 bs₁) (λ t bs₂ q.
    gives (rw (h.0, q.0) (simp append_assoc), and_from _ _ h.1 (formula_fits bs₁ bs₂ t o q)))))
command_gives (suc (suc zero)) bs = gives_then (box_gives bs) (λ b bs₁ h. gives (rw h.0, h.1))
command_gives (suc (suc (suc zero))) bs = gives_then (place_gives bs) (λ p bs₁ h. gives (rw h.0, h.1))
command_gives (suc (suc (suc (suc zero)))) bs = gives_then (box_gives bs) (λ b bs₁ h. gives_only (λ o. gives (rw h.0, and_from _ _ h.1 o)))
command_gives (suc (suc (suc (suc (suc zero))))) bs = gives_then (place_gives bs) (λ p bs₁ h. gives (rw h.0, h.1))
command_gives (suc (suc (suc (suc (suc (suc zero)))))) bs = gives_then (name_gives bs) (λ n bs₁ h. gives_then (target_gives bs₁) (λ t bs₂ q.
    gives (rw (h.0, q.0) (simp append_assoc), and_from _ _ h.1 q.1)))
command_gives (suc (suc (suc (suc (suc (suc (suc zero))))))) bs = gives_then (name_gives bs) (λ n bs₁ h. gives (rw h.0, h.1))
command_gives (suc (suc (suc (suc (suc (suc (suc (suc zero)))))))) bs = gives_then (stretch_gives bs) (λ s bs₁ h. gives (rw h.0, h.1))
command_gives (suc (suc (suc (suc (suc (suc (suc (suc (suc zero))))))))) bs = gives_then (stretch_gives bs) (λ s bs₁ h. gives (rw h.0, h.1))
command_gives (suc (suc (suc (suc (suc (suc (suc (suc (suc (suc zero)))))))))) bs = gives_then (box_gives bs) (λ b bs₁ h. gives_then (place_gives bs₁) (λ p bs₂ q.
    gives (rw (h.0, q.0) (ap (λ x. 10 ∷ x) (sym (append_assoc (box_spelled b) (place_spelled p) bs₂))), and_from _ _ h.1 q.1)))
command_gives (suc (suc (suc (suc (suc (suc (suc (suc (suc (suc (suc n))))))))))) bs = gives_none

text_gives : (bs : List ℕ) → Gives (λ c r. (bs ≡ spelled c ++ r) × (fits c ≡ true)) (then (one bs) command_tag)
text_gives bs = gives_then (one_gives bs) (λ k r h. rw h (command_gives k r))

whole_some : (g : Got Command) (c : Command) → whole g ≡ Some c → g ≡ got c []
whole_some (got a []) c e = cc
whole_some (got a (x ∷ xs)) c e = cc
whole_some nothing c e = cc

pub said_of : (text : List ℕ) (c : Command) → read_command text ≡ Some c → Said text c
unfolding Said
said_of text c e = let p = given c [] (text_gives text) (whole_some _ c e) in (sym (p.0 ∙ append-nil _), p.1)

formula_parts : (t : Term) → a_formula t ≡ true → (a_term t ≡ true) × (depth t ≤ 32) × (leb (length (term_spelled t ++ [])) 1024 ≡ true)
formula_parts t o =
    let p = and_parts (a_term t && leb (depth t) 32) (leb (length (term_spelled t)) 1024) o in let q = and_parts (a_term t) (leb (depth t) 32) p.0 in
    (q.0, leb-true (depth t) 32 q.1, rw append-nil p.1)

command_read : (c : Command) → fits c ≡ true → then (one (spelled c ++ [])) command_tag ≡ got c []
unfolding spelled fits one only
command_read (set_cell c r t) o =
    let p = and_parts (on_sheet c r) (a_formula t) o in let q = formula_parts t p.1 in
    rw (append_assoc (eight r) (term_spelled t) [], place_read (record { col = c; row = r }) (term_spelled t ++ []) p.0, q.2, term_read t 32 [] q.0 q.1)
command_read (wipe b) o = rw (box_read b [] o)
command_read (show c r) o = rw (place_read (record { col = c; row = r }) [] o)
command_read (rows b) o = let p = and_parts (a_box b) (leb (places_of b) 4096) o in rw (box_read b [] p.0) (rw p.1)
command_read (written c r) o = rw (place_read (record { col = c; row = r }) [] o)
command_read (name n t) o =
    let p = and_parts (a_name n) (a_target t) o in
    rw (append_assoc (with_length n) (term_spelled t) [], name_read n (term_spelled t ++ []) p.0, target_read t [] p.1)
command_read (unname n) o = rw (name_read n [] o)
command_read (insert v p k) o = rw (stretch_read (record { along = v; place = p; many = k }) [] o)
command_read (remove v p k) o = rw (stretch_read (record { along = v; place = p; many = k }) [] o)
command_read (copy b c r) o =
    let p = and_parts (a_box b) (on_sheet c r) o in let q : Place = record { col = c; row = r } in
    rw (append_assoc (box_spelled b) (place_spelled q) [], box_read b (place_spelled q ++ []) p.0, place_read q [] p.1)

pub read_of : (text : List ℕ) (c : Command) → Said text c → read_command text ≡ Some c
unfolding Said
read_of text c h = let e = append-nil (spelled c) ∙ h.0 in rw (← e, command_read c h.1)

pub reads : Reads
unfolding Reads
reads text c = (said_of text c, read_of text c)

some_or_none : {A : Type 0} (o : Option A) → ((a : A) × (o ≡ Some a)) ⊎ (o ≡ None)
some_or_none (Some a) = inl (a, refl)
some_or_none None = inr refl

-- what is not read is not said
pub unsaid : (text : List ℕ) → read_command text ≡ None → (c : Command) → Said text c → Never
unsaid text e c h = let i = read_of text c h in cc

pub told_apart : ToldApart
unfolding ToldApart
told_apart text = elim (some_or_none (read_command text)) [ inl p ↦ inl (p.0, said_of text p.0 p.1) | inr e ↦ inr (unsaid text e) ]

pub spelled_once : SpelledOnce
unfolding SpelledOnce Said
spelled_once a c fa fc e = let i = read_of (spelled c) a (e, fa) in let j = read_of (spelled c) c (refl, fc) in cc
