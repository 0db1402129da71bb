-- Lines and stores of the code as those of the plain device: one line read or put in, and one store more.
use Rattle.std.proofs.Common.{◌≡◌, ℕ, zero, suc, ◌<◌, ◌≤◌, Bool, true, false, eqb, cond, not, ◌⊎◌, List, [], ◌∷◌, ◌++◌, length, get_or, take, drop, filter, set, HoldsAt, MatchOption, Option, Some, None, option_copied, replicate, sym, refl, ap, ◌∙◌, ap₂, inl, inr, arith}
use Rattle.std.proofs.lemmas.List.{take_at}
use Rattle.std.specs.List.Retain.{IsFiltered}
use Rattle.std.proofs.lemmas.Fn.{filter_same}
use Rattle.std.proofs.lemmas.Bool.{eqb-true, eqb-false, eq-eqb, ne_eqb}
use denote.Ref.{Bor}
use Rattle.plain.specs.Term.{pick}
use Rattle.plain.specs.Device as plain
use Rattle.plain.specs.Device.{Line, set_line, line_at, all_stored, of_line, of_others, left, so_many_of}
use Rattle.plain.proofs.Members.{each_append}
use Rattle.plain.proofs.Stops.{length_set, at_other, seen_length, seen_store, seen_settle, stop_length}
use Rattle.device.specs.declared.store.Store.{Store}
use Rattle.device.specs.Stores.{store_of, stores_of}

pub no_line : (ls : List Line) (k : ℕ) → length ls ≤ k → line_at ls k ≡ []
unfolding line_at
no_line [] k h = refl
no_line (q ∷ qs) zero h = absurd (omega arith)
no_line (q ∷ qs) (suc k) h = no_line qs k (omega arith)

pub line_get_or : (ls : List Line) (k : ℕ) → get_or ls k [] ≡ line_at ls k
unfolding line_at
line_get_or [] k = refl
line_get_or (q ∷ qs) zero = refl
line_get_or (q ∷ qs) (suc k) = line_get_or qs k

-- what is read of a list of lines: the line, or nothing past the last one
pub line_got : (ls : List Line) (k : ℕ) (o : Option (Bor Line)) → MatchOption o (length ls ≤ k) (λ x. (k < length ls) × HoldsAt (λ y. x.now ≡ y) ls k) →
    MatchOption (option_copied o) (line_at ls k ≡ []) (λ p. line_at ls k ≡ p)
line_got ls k None h = no_line ls k h
line_got ls k (Some x) h = sym (h.1 [] ∙ line_get_or ls k)

pub set_is_line : (ls : List Line) (k : ℕ) (p : Line) → set ls k p ≡ set_line ls k p
unfolding set_line
set_is_line [] k p = refl
set_is_line (q ∷ qs) zero p = refl
set_is_line (q ∷ qs) (suc k) p = ap (λ xs. q ∷ xs) (set_is_line qs k p)

pub set_past : (ls : List Line) (k : ℕ) (p : Line) → length ls ≤ k → set_line ls k p ≡ ls
unfolding set_line
set_past [] k p h = refl
set_past (q ∷ qs) zero p h = absurd (omega arith)
set_past (q ∷ qs) (suc k) p h = ap (λ xs. q ∷ xs) (set_past qs k p (omega arith))

pub many_replicated : {A : Type 0} (n : ℕ) (x : A) → replicate n x ≡ so_many_of n x
unfolding so_many_of
many_replicated zero x = refl
many_replicated (suc n) x = ap (λ xs. x ∷ xs) (many_replicated n x)

pub stores_more : (ws : List Store) (w : Store) → stores_of (ws ++ w ∷ []) ≡ stores_of ws ++ store_of w ∷ []
stores_more ws w = each_append store_of ws (w ∷ [])

pub seen_more : (ls : List Line) (ws : List Store) (w : Store) → all_stored ls (stores_of (ws ++ w ∷ [])) ≡ set_line (all_stored ls (stores_of ws)) w.at w.line
seen_more ls ws w = ap (all_stored ls) (stores_more ws w) ∙ seen_store (record { lines = ls; cache = stores_of ws }) w.at w.line

-- a vector that was lent as a slice, after what was done to the slice
pub lent_back : {A : Type 0} (n : ℕ) (xs items : List A) → length xs ≡ length items → n ≡ length items → take n (xs ++ drop (length xs) items) ≡ xs
lent_back n xs items h e = take_at xs (drop (length xs) items) n (h ∙ sym e)

pub seen_long : (ls : List Line) (ws : List plain.Store) → length (all_stored ls ws) ≡ length ls
seen_long ls ws = seen_length (record { lines = ls; cache = ws })

-- settling: the line becomes what it is seen to be
set_same : (ls : List Line) (k : ℕ) → set_line ls k (line_at ls k) ≡ ls
unfolding set_line line_at
set_same [] k = refl
set_same (q ∷ qs) zero = refl
set_same (q ∷ qs) (suc k) = ap (λ xs. q ∷ xs) (set_same qs k)

set_twice : (ls : List Line) (k : ℕ) (p q : Line) → set_line (set_line ls k p) k q ≡ set_line ls k q
unfolding set_line
set_twice [] k p q = refl
set_twice (l ∷ ls) zero p q = refl
set_twice (l ∷ ls) (suc k) p q = ap (λ xs. l ∷ xs) (set_twice ls k p q)

set_agree : (ls ms : List Line) (j k : ℕ) (p : Line) → length ls ≡ length ms → line_at ls k ≡ line_at ms k → line_at (set_line ls j p) k ≡ line_at (set_line ms j p) k
unfolding set_line line_at
set_agree [] [] j k p h e = refl
set_agree [] (m ∷ ms) j k p h e = absurd (omega arith)
set_agree (l ∷ ls) [] j k p h e = absurd (omega arith)
set_agree (l ∷ ls) (m ∷ ms) zero zero p h e = refl
set_agree (l ∷ ls) (m ∷ ms) zero (suc k) p h e = e
set_agree (l ∷ ls) (m ∷ ms) (suc j) zero p h e = e
set_agree (l ∷ ls) (m ∷ ms) (suc j) (suc k) p h e = set_agree ls ms j k p (omega arith) e

seen_agree : (ls ms : List Line) (ws : List plain.Store) (k : ℕ) → length ls ≡ length ms → line_at ls k ≡ line_at ms k → line_at (all_stored ls ws) k ≡ line_at (all_stored ms ws) k
unfolding all_stored
seen_agree ls ms [] k h e = e
seen_agree ls ms (w ∷ ws) k h e =
    seen_agree (set_line ls w.at w.line) (set_line ms w.at w.line) ws k
    (length_set ls w.at w.line ∙ h ∙ sym (length_set ms w.at w.line)) (set_agree ls ms w.at k w.line h e)

pub settled_line : (ls : List Line) (k : ℕ) (ws : List plain.Store) → all_stored ls (of_line k ws) ≡ set_line ls k (line_at (all_stored ls ws) k)
unfolding all_stored of_line
settled_line ls k [] = sym (set_same ls k)
settled_line ls k (w ∷ ws) = go (eqb w.at k) refl (settled_line ls k ws) (settled_line (set_line ls w.at w.line) k ws)
  where
    ms : List Line
    ms = set_line ls w.at w.line

    go : (b : Bool) → eqb w.at k ≡ b → all_stored ls (of_line k ws) ≡ set_line ls k (line_at (all_stored ls ws) k) → all_stored ms (of_line k ws) ≡ set_line ms k (line_at (all_stored ms ws) k) →
        all_stored ls (pick b (w ∷ of_line k ws) (of_line k ws)) ≡ set_line ls k (line_at (all_stored ms ws) k)
    go true e f g =
        g ∙ ap (λ i. set_line (set_line ls i w.line) k (line_at (all_stored ms ws) k)) (eqb-true w.at k e) ∙ set_twice ls k w.line (line_at (all_stored ms ws) k)
    go false e f g =
        f ∙ ap (set_line ls k) (seen_agree ls ms ws k (sym (length_set ls w.at w.line)) (sym (at_other ls w.at k w.line (λ h. eqb-false w.at k e (sym h)))))

-- the stores to other lines are those that the code retains
others_filtered : (k : ℕ) (ws : List Store) → stores_of (filter (λ w. not (eqb w.at k)) ws) ≡ of_others k (stores_of ws)
unfolding of_others
others_filtered k [] = refl
others_filtered k (w ∷ ws) = go (eqb w.at k) (others_filtered k ws)
  where
    rest : List Store
    rest = filter (λ v. not (eqb v.at k)) ws

    go : (b : Bool) → stores_of rest ≡ of_others k (stores_of ws) → stores_of (cond (not b) (w ∷ rest) rest) ≡ pick b (of_others k (stores_of ws)) (store_of w ∷ of_others k (stores_of ws))
    go true e = e
    go false e = ap (λ xs. store_of w ∷ xs) e

pub others_retained : {F : Type 0} (R : F → Store → Bool → F → Type 0) (k : ℕ) (f : F) → ((w : Store) (b : Bool) (f₁ : F) → R f w b f₁ → (b ≡ not (eqb w.at k)) × (f₁ ≡ f)) →
    (ws vs : List Store) → IsFiltered R f ws vs → stores_of vs ≡ of_others k (stores_of ws)
others_retained R k f h ws vs e = ap stores_of (filter_same R (λ w. not (eqb w.at k)) f h ws vs e) ∙ others_filtered k ws

-- what settling leaves, as the code has it
pub settled_so : (ls ms : List Line) (ws vs : List Store) (k : ℕ) → ms ≡ set_line ls k (line_at (all_stored ls (stores_of ws)) k) → stores_of vs ≡ of_others k (stores_of ws) →
    ◌≡◌ {A = plain.Device} (record { lines = ms; cache = stores_of vs }) (plain.settled (record { lines = ls; cache = stores_of ws }) k)
settled_so ls ms ws vs k e f = ap₂ (λ xs qs. record { lines = xs; cache = qs }) (e ∙ sym (settled_line ls k (stores_of ws))) f

pub settled_seen : (seen ls ms : List Line) (ws vs : List Store) (k : ℕ) → seen ≡ all_stored ls (stores_of ws) → ms ≡ set_line ls k (line_at (all_stored ls (stores_of ws)) k) → stores_of vs ≡ of_others k (stores_of ws) →
    seen ≡ all_stored ms (stores_of vs)
settled_seen seen ls ms ws vs k h e f =
    h ∙ (sym (seen_settle (record { lines = ls; cache = stores_of ws }) k) ∙ sym (ap₂ all_stored (e ∙ sym (settled_line ls k (stores_of ws))) f))

-- the lines that settling lends, when they come back
pub lines_then : (n k : ℕ) (ls ls₁ ms seen seen₁ : List Line) (ws : List plain.Store) → n ≡ length ls → ls₁ ≡ ls → seen₁ ≡ seen → seen ≡ all_stored ls ws →
    ms ≡ set_line ls₁ k (line_at seen₁ k) → take n (ms ++ drop (length ms) ls) ≡ set_line ls k (line_at (all_stored ls ws) k)
lines_then n k ls ls₁ ms seen seen₁ ws z a b h e =
    lent_back n ms ls (ap length e ∙ (length_set ls₁ k (line_at seen₁ k) ∙ ap length a)) z ∙ (e ∙ ap₂ (λ xs ys. set_line xs k (line_at ys k)) a (b ∙ h))

-- a power failure, store by store
pub arrived_more : (ls ms : List Line) (ws vs : List Store) (cs bs : List ℕ) (w : Store) (c : ℕ) → ws ≡ w ∷ vs → cs ≡ c ∷ bs → c ≡ 1 → ms ≡ set_line ls w.at w.line →
    left ms (stores_of vs) bs ≡ left ls (stores_of ws) cs
unfolding left
arrived_more ls ms ws vs cs bs w c e f a h =
    ap (λ xs. left xs (stores_of vs) bs) (h ∙ sym (ap (λ b. pick b (set_line ls w.at w.line) ls) (eq-eqb c 1 a))) ∙ sym (ap₂ (λ xs ds. left ls (stores_of xs) ds) e f)

pub lost_more : (ls : List Line) (ws vs : List Store) (cs bs : List ℕ) (w : Store) (c : ℕ) → ws ≡ w ∷ vs → cs ≡ c ∷ bs → (c ≡ 1 → ⊥) →
    left ls (stores_of vs) bs ≡ left ls (stores_of ws) cs
unfolding left
lost_more ls ws vs cs bs w c e f a =
    sym (ap (λ b. left (pick b (set_line ls w.at w.line) ls) (stores_of vs) bs) (ne_eqb c 1 a)) ∙ sym (ap₂ (λ xs ds. left ls (stores_of xs) ds) e f)

left_spent : (ls : List Line) (ws : List plain.Store) → left ls ws [] ≡ ls
unfolding left
left_spent ls [] = refl
left_spent ls (w ∷ ws) = refl

left_done : (ls : List Line) (cs : List ℕ) → left ls [] cs ≡ ls
unfolding left
left_done ls cs = refl

pub left_all : (ls : List Line) (ws : List Store) (cs : List ℕ) → (ws ≡ []) ⊎ (cs ≡ []) → left ls (stores_of ws) cs ≡ ls
left_all ls ws cs (inl h) = ap (λ vs. left ls (stores_of vs) cs) h ∙ left_done ls cs
left_all ls ws cs (inr h) = ap (left ls (stores_of ws)) h ∙ left_spent ls (stores_of ws)

pub stopped_seen : (seen ms : List Line) (vs : List Store) → seen ≡ ms → vs ≡ [] → seen ≡ all_stored ms (stores_of vs)
unfolding all_stored
stopped_seen seen ms vs e f = e ∙ sym (ap (λ qs. all_stored ms (stores_of qs)) f)

pub stop_then : (n : ℕ) (ls ls₁ ms : List Line) (ws ws₁ : List Store) (cs : List ℕ) → n ≡ length ls → ls₁ ≡ ls → ws₁ ≡ ws → ms ≡ left ls₁ (stores_of ws₁) cs →
    take n (ms ++ drop (length ms) ls) ≡ left ls (stores_of ws) cs
stop_then n ls ls₁ ms ws ws₁ cs z a b e =
    lent_back n ms ls (ap length e ∙ (stop_length (record { lines = ls₁; cache = stores_of ws₁ }) cs ∙ ap length a)) z ∙ (e ∙ ap₂ (λ xs vs. left xs (stores_of vs) cs) a b)
