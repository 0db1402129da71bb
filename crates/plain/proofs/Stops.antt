-- What a stop may leave of a device, in lines: every stop of a device to which a line was stored and settled is a stop of it before, with that line put in.
use Rattle.std.proofs.Common.{◌≡◌, ℕ, zero, suc, ◌<◌, Bool, true, false, eqb, ◌⊎◌, List, [], ◌∷◌, ◌++◌, length, sym, refl, ap, ◌∙◌, subst, inl, inr, arith}
use Rattle.std.proofs.lemmas.Bool.{eqb-true, eqb-false, ne_eqb}
use Rattle.plain.specs.Term.{pick}
use Rattle.plain.specs.Promise.{SettledStays}
use Rattle.plain.specs.Stopping.{seen, stop, Always, Is, Sure}
use Rattle.plain.specs.Device.{Device, Line, Store, set_line, line_at, all_stored, read_line, of_line, of_others, settled, storing, left, stopped}

-- lines and one that is put in
pub length_set : (ls : List Line) (k : ℕ) (p : Line) → length (set_line ls k p) ≡ length ls
unfolding set_line
length_set [] k p = refl
length_set (q ∷ qs) zero p = refl
length_set (q ∷ qs) (suc k) p = ap suc (length_set qs k p)

pub at_same : (ls : List Line) (k : ℕ) (p : Line) → k < length ls → line_at (set_line ls k p) k ≡ p
unfolding set_line line_at
at_same [] k p h = absurd (omega arith)
at_same (q ∷ qs) zero p h = refl
at_same (q ∷ qs) (suc k) p h = at_same qs k p (omega arith)

pub at_other : (ls : List Line) (k j : ℕ) (p : Line) → (j ≡ k → ⊥) → line_at (set_line ls k p) j ≡ line_at ls j
unfolding set_line line_at
at_other [] k j p h = refl
at_other (q ∷ qs) zero zero p h = absurd (h refl)
at_other (q ∷ qs) zero (suc j) p h = refl
at_other (q ∷ qs) (suc k) zero p h = refl
at_other (q ∷ qs) (suc k) (suc j) p h = at_other qs k j p (λ e. h (ap suc e))

set_is : (ls : List Line) (k : ℕ) (p : Line) → line_at ls k ≡ p → set_line ls k p ≡ ls
unfolding set_line line_at
set_is [] k p h = refl
set_is (q ∷ qs) zero p h = ap (λ x. x ∷ qs) (sym h)
set_is (q ∷ qs) (suc k) p h = ap (λ xs. q ∷ xs) (set_is qs k p h)

set_apart : (ls : List Line) (j k : ℕ) (p q : Line) → (j ≡ k → ⊥) → set_line (set_line ls j p) k q ≡ set_line (set_line ls k q) j p
unfolding set_line
set_apart [] j k p q h = refl
set_apart (l ∷ ls) zero zero p q h = absurd (h refl)
set_apart (l ∷ ls) zero (suc k) p q h = refl
set_apart (l ∷ ls) (suc j) zero p q h = refl
set_apart (l ∷ ls) (suc j) (suc k) p q h = ap (λ xs. l ∷ xs) (set_apart ls j k p q (λ e. h (ap suc e)))

-- stores to one line, and a store to another
stored_apart : (ls : List Line) (ws : List Store) (j k : ℕ) (p : Line) → (j ≡ k → ⊥)
    → all_stored (set_line ls j p) (of_line k ws) ≡ set_line (all_stored ls (of_line k ws)) j p
unfolding all_stored of_line
stored_apart ls [] j k p h = refl
stored_apart ls (w ∷ ws) j k p h = go (eqb w.at k) refl (λ ls₁. stored_apart ls₁ ws j k p h)
  where
    go : (b : Bool) → eqb w.at k ≡ b → ((ls₁ : List Line) → all_stored (set_line ls₁ j p) (of_line k ws) ≡ set_line (all_stored ls₁ (of_line k ws)) j p)
        → all_stored (set_line ls j p) (pick b (w ∷ of_line k ws) (of_line k ws)) ≡ set_line (all_stored ls (pick b (w ∷ of_line k ws) (of_line k ws))) j p
    go true e again =
        ap (λ ls₁. all_stored ls₁ (of_line k ws)) (set_apart ls j w.at p w.line (λ f. h (f ∙ eqb-true w.at k e)))
        ∙ again (set_line ls w.at w.line)
    go false e again = again ls

-- what is read isn't changed by settling
seen_settled : (ls : List Line) (k : ℕ) (ws : List Store) → all_stored (all_stored ls (of_line k ws)) (of_others k ws) ≡ all_stored ls ws
unfolding all_stored of_line of_others
seen_settled ls k [] = refl
seen_settled ls k (w ∷ ws) = go (eqb w.at k) refl (seen_settled (set_line ls w.at w.line) k ws)
  where
    go : (b : Bool) → eqb w.at k ≡ b
        → all_stored (all_stored (set_line ls w.at w.line) (of_line k ws)) (of_others k ws) ≡ all_stored (set_line ls w.at w.line) ws
        → all_stored (all_stored ls (pick b (w ∷ of_line k ws) (of_line k ws))) (pick b (of_others k ws) (w ∷ of_others k ws)) ≡ all_stored ls (w ∷ ws)
    go true e again = again
    go false e again = ap (λ ls₁. all_stored ls₁ (of_others k ws)) (sym (stored_apart ls ws w.at k w.line (eqb-false w.at k e))) ∙ again

seen_stored : (ls : List Line) (ws : List Store) (w : Store) → all_stored ls (ws ++ w ∷ []) ≡ set_line (all_stored ls ws) w.at w.line
unfolding all_stored
seen_stored ls [] w = refl
seen_stored ls (v ∷ ws) w = seen_stored (set_line ls v.at v.line) ws w

left_none : (ls : List Line) (ws : List Store) → left ls ws [] ≡ ls
unfolding left
left_none ls [] = refl
left_none ls (w ∷ ws) = refl

left_all : (ls : List Line) (ws : List Store) → (cs : List ℕ) × (left ls ws cs ≡ all_stored ls ws)
unfolding left all_stored
left_all ls [] = ([], refl)
left_all ls (w ∷ ws) = let h = left_all (set_line ls w.at w.line) ws in (1 ∷ h.0, h.1)

left_length : (ls : List Line) (ws : List Store) (cs : List ℕ) → length (left ls ws cs) ≡ length ls
unfolding left
left_length ls [] cs = refl
left_length ls (w ∷ ws) [] = refl
left_length ls (w ∷ ws) (c ∷ cs) = left_length (pick (eqb c 1) (set_line ls w.at w.line) ls) ws cs ∙ go (eqb c 1)
  where
    go : (b : Bool) → length (pick b (set_line ls w.at w.line) ls) ≡ length ls
    go true = length_set ls w.at w.line
    go false = refl

-- a stop with one store more: it's there, or it isn't
left_stored : (ls : List Line) (ws : List Store) (w : Store) (cs : List ℕ)
    → (left ls (ws ++ w ∷ []) cs ≡ left ls ws cs) ⊎ (left ls (ws ++ w ∷ []) cs ≡ set_line (left ls ws cs) w.at w.line)
unfolding left
left_stored ls [] w [] = inl refl
left_stored ls [] w (c ∷ cs) = go (eqb c 1)
  where
    go : (b : Bool) → (pick b (set_line ls w.at w.line) ls ≡ ls) ⊎ (pick b (set_line ls w.at w.line) ls ≡ set_line ls w.at w.line)
    go true = inr refl
    go false = inl refl
left_stored ls (v ∷ ws) w [] = inl refl
left_stored ls (v ∷ ws) w (c ∷ cs) = left_stored (pick (eqb c 1) (set_line ls v.at v.line) ls) ws w cs

-- a stop after settling could have come before
left_settled : (ls : List Line) (k : ℕ) (ws : List Store) (cs : List ℕ)
    → (cs₁ : List ℕ) × (left (all_stored ls (of_line k ws)) (of_others k ws) cs ≡ left ls ws cs₁)
unfolding left all_stored of_line of_others
left_settled ls k [] cs = ([], refl)
left_settled ls k (w ∷ ws) cs = go (eqb w.at k) refl cs (λ ls₁ cs₁. left_settled ls₁ k ws cs₁)
  where
    Before : List Line → List ℕ → Type 0
    Before ls₁ cs₁ = (cs₂ : List ℕ) × (left (all_stored ls₁ (of_line k ws)) (of_others k ws) cs₁ ≡ left ls₁ ws cs₂)

    turn : (b : Bool) → eqb w.at k ≡ false
        → pick b (set_line (all_stored ls (of_line k ws)) w.at w.line) (all_stored ls (of_line k ws))
        ≡ all_stored (pick b (set_line ls w.at w.line) ls) (of_line k ws)
    turn true e = sym (stored_apart ls ws w.at k w.line (eqb-false w.at k e))
    turn false e = refl

    go : (b : Bool) → eqb w.at k ≡ b → (cs₁ : List ℕ) → ((ls₁ : List Line) (cs₂ : List ℕ) → Before ls₁ cs₂)
        → (cs₂ : List ℕ) × (left (all_stored ls (pick b (w ∷ of_line k ws) (of_line k ws))) (pick b (of_others k ws) (w ∷ of_others k ws)) cs₁ ≡ left ls (w ∷ ws) cs₂)
    go true e cs₁ again = let h = again (set_line ls w.at w.line) cs₁ in (1 ∷ h.0, h.1)
    go false e [] again = let h = again ls [] in (0 ∷ h.0, sym (left_none (all_stored ls (of_line k ws)) (of_others k ws)) ∙ h.1)
    go false e (c ∷ cs₁) again =
        let h = again (pick (eqb c 1) (set_line ls w.at w.line) ls) cs₁ in
        (c ∷ h.0, ap (λ ls₁. left ls₁ (of_others k ws) cs₁) (turn (eqb c 1) e) ∙ h.1)

left_others : (ls : List Line) (k : ℕ) (ws : List Store) (cs : List ℕ) → line_at (left ls (of_others k ws) cs) k ≡ line_at ls k
unfolding left of_others
left_others ls k [] cs = refl
left_others ls k (w ∷ ws) cs = go (eqb w.at k) refl cs (λ ls₁ cs₁. left_others ls₁ k ws cs₁)
  where
    turn : (b : Bool) → eqb w.at k ≡ false → line_at (pick b (set_line ls w.at w.line) ls) k ≡ line_at ls k
    turn true e = at_other ls w.at k w.line (λ f. eqb-false w.at k e (sym f))
    turn false e = refl

    go : (b : Bool) → eqb w.at k ≡ b → (cs₁ : List ℕ) → ((ls₁ : List Line) (cs₂ : List ℕ) → line_at (left ls₁ (of_others k ws) cs₂) k ≡ line_at ls₁ k)
        → line_at (left ls (pick b (of_others k ws) (w ∷ of_others k ws)) cs₁) k ≡ line_at ls k
    go true e cs₁ again = again ls cs₁
    go false e [] again = refl
    go false e (c ∷ cs₁) again = again (pick (eqb c 1) (set_line ls w.at w.line) ls) cs₁ ∙ turn (eqb c 1) e

-- OF DEVICES: the lines as they are read, and as a stop leaves them
pub seen_store : (d : Device) (k : ℕ) (p : Line) → seen (storing d k p) ≡ set_line (seen d) k p
seen_store d k p = seen_stored d.lines d.cache (record { at = k; line = p })

pub seen_settle : (d : Device) (k : ℕ) → seen (settled d k) ≡ seen d
seen_settle d k = seen_settled d.lines k d.cache

pub stop_store : (d : Device) (k : ℕ) (p : Line) (cs : List ℕ) → (stop (storing d k p) cs ≡ stop d cs) ⊎ (stop (storing d k p) cs ≡ set_line (stop d cs) k p)
stop_store d k p cs = left_stored d.lines d.cache (record { at = k; line = p }) cs

pub stop_settle : (d : Device) (k : ℕ) (cs : List ℕ) → (cs₁ : List ℕ) × (stop (settled d k) cs ≡ stop d cs₁)
stop_settle d k cs = left_settled d.lines k d.cache cs

pub stop_seen : (d : Device) → (cs : List ℕ) × (stop d cs ≡ seen d)
stop_seen d = left_all d.lines d.cache

pub stop_length : (d : Device) (cs : List ℕ) → length (stop d cs) ≡ length d.lines
stop_length d cs = left_length d.lines d.cache cs

pub seen_length : (d : Device) → length (seen d) ≡ length d.lines
seen_length d = let h = stop_seen d in ap length (sym h.1) ∙ stop_length d h.0

-- a line that was settled is sure
pub stop_settled : (d : Device) (k : ℕ) (cs : List ℕ) → line_at (stop (settled d k) cs) k ≡ line_at (seen d) k
stop_settled d k cs =
    let h = stop_seen (settled d k) in
    left_others (all_stored d.lines (of_line k d.cache)) k d.cache cs
    ∙ sym (left_others (all_stored d.lines (of_line k d.cache)) k d.cache h.0)
    ∙ ap (λ ls. line_at ls k) (h.1 ∙ seen_settle d k)

-- a line that is stored and settled at once is as if it had been put in
pub stop_write : (d : Device) (k : ℕ) (p : Line) (cs : List ℕ) → k < length d.lines
    → (cs₁ : List ℕ) × (stop (settled (storing d k p) k) cs ≡ set_line (stop d cs₁) k p)
stop_write d k p cs lt = (h.0, go (stop_store d k p h.0))
  where
    h : (cs₁ : List ℕ) × (stop (settled (storing d k p) k) cs ≡ stop (storing d k p) cs₁)
    h = stop_settle (storing d k p) k cs

    there : line_at (stop (settled (storing d k p) k) cs) k ≡ p
    there =
        stop_settled (storing d k p) k cs ∙ ap (λ ls. line_at ls k) (seen_store d k p)
        ∙ at_same (seen d) k p (subst (λ n. k < n) (sym (seen_length d)) lt)

    go : (stop (storing d k p) h.0 ≡ stop d h.0) ⊎ (stop (storing d k p) h.0 ≡ set_line (stop d h.0) k p)
        → stop (settled (storing d k p) k) cs ≡ set_line (stop d h.0) k p
    go (inl e) = h.1 ∙ e ∙ sym (set_is (stop d h.0) k p (ap (λ ls. line_at ls k) (sym (h.1 ∙ e)) ∙ there))
    go (inr e) = h.1 ∙ e

pub always_seen : (P : List Line → Type 0) (d : Device) → Always P d → P (seen d)
always_seen P d a = let h = stop_seen d in subst P h.1 (a h.0)

pub always_store : (P R : List Line → Type 0) (d : Device) (k : ℕ) (p : Line)
    → ((ls : List Line) → P ls → R ls) → ((ls : List Line) → P ls → R (set_line ls k p)) → Always P d → Always R (storing d k p)
always_store P R d k p f g a cs = go (stop_store d k p cs)
  where
    go : (stop (storing d k p) cs ≡ stop d cs) ⊎ (stop (storing d k p) cs ≡ set_line (stop d cs) k p) → R (stop (storing d k p) cs)
    go (inl e) = subst R (sym e) (f (stop d cs) (a cs))
    go (inr e) = subst R (sym e) (g (stop d cs) (a cs))

pub always_settle : (P : List Line → Type 0) (d : Device) (k : ℕ) → Always P d → Always P (settled d k)
always_settle P d k a cs = let h = stop_settle d k cs in subst P (sym h.1) (a h.0)

pub always_write : (P R : List Line → Type 0) (d : Device) (k : ℕ) (p : Line) → k < length d.lines
    → ((ls : List Line) → P ls → R (set_line ls k p)) → Always P d → Always R (settled (storing d k p) k)
always_write P R d k p lt g a cs = let h = stop_write d k p cs lt in subst R (sym h.1) (g (stop d h.0) (a h.0))

pub always_stopped : (P : List Line → Type 0) (d : Device) (cs : List ℕ) → Always P d → Always P (stopped d cs)
unfolding left
always_stopped P d cs a cs₁ = a cs

pub always_quiet : (P : List Line → Type 0) (d : Device) → d.cache ≡ [] → P d.lines → Always P d
always_quiet P d e p cs = subst P (sym (ap (λ ws. left d.lines ws cs) e ∙ left_nil d.lines cs)) p
  where
    left_nil : (ls : List Line) (cs : List ℕ) → left ls [] cs ≡ ls
    left_nil ls cs = unfold left in refl

pub is_store : (S P : List Line → Type 0) (d : Device) (k : ℕ) (p : Line) → (S (seen d) → S (set_line (seen d) k p)) → ((ls : List Line) → P ls → P (set_line ls k p))
    → Is S P d → Is S P (storing d k p)
is_store S P d k p f g a = (always_store P P d k p (λ ls x. x) g a.0, subst S (sym (seen_store d k p)) (f a.1))

pub is_settle : (S P : List Line → Type 0) (d : Device) (k : ℕ) → Is S P d → Is S P (settled d k)
is_settle S P d k a = (always_settle P d k a.0, subst S (sym (seen_settle d k)) a.1)

pub is_write : (S P R : List Line → Type 0) (d : Device) (k : ℕ) (p : Line) → k < length d.lines → (S (seen d) → S (set_line (seen d) k p))
    → ((ls : List Line) → P ls → R (set_line ls k p)) → Is S P d → Is S R (settled (storing d k p) k)
is_write S P R d k p lt f g a =
    (always_write P R d k p lt g a.0, subst S (sym (seen_settle (storing d k p) k ∙ seen_store d k p)) (f a.1))

-- OF ONE LINE, by what is in the cache
line_more : (k : ℕ) (ws qs : List Store) → of_line k ws ≡ [] → of_line k qs ≡ [] → of_line k (ws ++ qs) ≡ []
unfolding of_line
line_more k [] qs a b = b
line_more k (w ∷ ws) qs a b = go (eqb w.at k) a (λ c. line_more k ws qs c b)
  where
    go : (v : Bool) → pick v (w ∷ of_line k ws) (of_line k ws) ≡ [] → (of_line k ws ≡ [] → of_line k (ws ++ qs) ≡ []) → pick v (w ∷ of_line k (ws ++ qs)) (of_line k (ws ++ qs)) ≡ []
    go true e f = absurd (let z : ◌≡◌ {A = ℕ} 1 0 = cc e in omega arith)
    go false e f = f e

line_others : (k j : ℕ) (ws : List Store) → of_line k ws ≡ [] → of_line k (of_others j ws) ≡ []
unfolding of_line of_others
line_others k j [] a = refl
line_others k j (w ∷ ws) a = go (eqb w.at k) (eqb w.at j) refl a (λ c. line_others k j ws c)
  where
    go : (v x : Bool) → eqb w.at k ≡ v → pick v (w ∷ of_line k ws) (of_line k ws) ≡ [] → (of_line k ws ≡ [] → of_line k (of_others j ws) ≡ [])
        → of_line k (pick x (of_others j ws) (w ∷ of_others j ws)) ≡ []
    go true x h e f = absurd (let z : ◌≡◌ {A = ℕ} 1 0 = cc e in omega arith)
    go false true h e f = f e
    go false false h e f = rw h (f e)

line_own : (k : ℕ) (ws : List Store) → of_line k (of_others k ws) ≡ []
unfolding of_line of_others
line_own k [] = refl
line_own k (w ∷ ws) = go (eqb w.at k) refl (line_own k ws)
  where
    go : (v : Bool) → eqb w.at k ≡ v → of_line k (of_others k ws) ≡ [] → of_line k (pick v (of_others k ws) (w ∷ of_others k ws)) ≡ []
    go true h e = e
    go false h e = rw h e

left_quiet : (ls : List Line) (k : ℕ) (ws : List Store) (cs : List ℕ) → of_line k ws ≡ [] → line_at (left ls ws cs) k ≡ line_at ls k
unfolding left of_line
left_quiet ls k [] cs a = refl
left_quiet ls k (w ∷ ws) [] a = refl
left_quiet ls k (w ∷ ws) (c ∷ cs) a = go (eqb w.at k) refl a (λ ls₁ b. left_quiet ls₁ k ws cs b)
  where
    turn : (b : Bool) → eqb w.at k ≡ false → line_at (pick b (set_line ls w.at w.line) ls) k ≡ line_at ls k
    turn true e = at_other ls w.at k w.line (λ f. eqb-false w.at k e (sym f))
    turn false e = refl

    go : (v : Bool) → eqb w.at k ≡ v → pick v (w ∷ of_line k ws) (of_line k ws) ≡ []
        → ((ls₁ : List Line) → of_line k ws ≡ [] → line_at (left ls₁ ws cs) k ≡ line_at ls₁ k)
        → line_at (left (pick (eqb c 1) (set_line ls w.at w.line) ls) ws cs) k ≡ line_at ls k
    go true h e f = absurd (let z : ◌≡◌ {A = ℕ} 1 0 = cc e in omega arith)
    go false h e f = f (pick (eqb c 1) (set_line ls w.at w.line) ls) e ∙ turn (eqb c 1) h

pub sure_stop : (d : Device) (k : ℕ) (cs : List ℕ) → Sure d k → line_at (stopped d cs).lines k ≡ read_line d k
sure_stop d k cs s =
    let h = stop_seen d in
    left_quiet d.lines k d.cache cs s ∙ sym (left_quiet d.lines k d.cache h.0 s) ∙ ap (λ ls. line_at ls k) h.1

pub sure_store : (d : Device) (k j : ℕ) (p : Line) → (j ≡ k → ⊥) → Sure d k → Sure (storing d j p) k
unfolding of_line
sure_store d k j p n s = line_more k d.cache (record { at = j; line = p } ∷ []) s (rw (ne_eqb j k n) refl)

pub sure_settle : (d : Device) (k j : ℕ) → Sure d k → Sure (settled d j) k
sure_settle d k j s = line_others k j d.cache s

pub settle_sure : (d : Device) (k : ℕ) → Sure (settled d k) k
settle_sure d k = line_own k d.cache

pub read_store : (d : Device) (k : ℕ) (p : Line) → k < length d.lines → read_line (storing d k p) k ≡ p
read_store d k p h = ap (λ ls. line_at ls k) (seen_store d k p) ∙ at_same (seen d) k p (subst (λ n. k < n) (sym (seen_length d)) h)

pub read_store_other : (d : Device) (k j : ℕ) (p : Line) → (j ≡ k → ⊥) → read_line (storing d k p) j ≡ read_line d j
read_store_other d k j p h = ap (λ ls. line_at ls j) (seen_store d k p) ∙ at_other (seen d) k j p h

pub read_settle : (d : Device) (k j : ℕ) → read_line (settled d k) j ≡ read_line d j
read_settle d k j = ap (λ ls. line_at ls j) (seen_settle d k)

-- what was settled stays, whatever a stop leaves of stores to other lines
pub settled_stays : SettledStays
unfolding SettledStays
settled_stays d qs cs k e =
    let none : of_line k (of_others k d.cache ++ qs) ≡ [] = line_more k (of_others k d.cache) qs (line_own k d.cache) (empty (of_line k qs) e) in
    left_quiet (settled d k).lines k (of_others k d.cache ++ qs) cs none
    ∙ sym (left_others (settled d k).lines k d.cache []) ∙ stop_settled d k []
  where
    empty : (ws : List Store) → length ws ≡ 0 → ws ≡ []
    empty [] h = refl
    empty (w ∷ ws) h = absurd (omega arith)
