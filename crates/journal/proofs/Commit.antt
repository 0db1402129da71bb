-- Each program of the journal is safe: what a stop finds at any act, what holds at the end, and how many lines were used.
use Rattle.std.proofs.Common.{◌≡◌, ℕ, suc, ◌+◌, ◌*◌, ◌<◌, ◌≤◌, true, List, [], ◌∷◌, ◌++◌, length, sym, refl, ap, ◌∙◌, subst, append_assoc, append-nil, arith, length-append}
use Rattle.plain.specs.Device.{Device, Line, storing, settled, a_line, line_at, set_line}
use Rattle.plain.specs.Run.{read, store, settle}
use Rattle.programs.specs.Prog.{Prog, ret, ask, bind}
use Rattle.programs.specs.Machine.{At, at, Safe, blank}
use Rattle.programs.proofs.Rules.{safe_weak, safe_bind, safe_ret, safe_read, safe_store, safe_settle}
use Rattle.plain.specs.Stopping.{seen, stop, Always, Is}
use Rattle.plain.proofs.Stops.{at_other, stop_length, always_seen, always_store, is_store, is_write}
use Rattle.journal.specs.Journal.{Write, written, word, word_line, Layout, Logged, Good, Sound, Marks, Ready, Half, Committed}
use Rattle.journal.specs.Programs.{Stable, Derived, After, write, log, log_all, commit, apply, apply_all, clear, reapply, reapply_all}
use Rattle.journal.proofs.Lines.{word_line_line, logged_at, good_at, half_set, ready_set, committed_set, applied_set, clear_set}

pub derived_stable : (Y : Layout) (E : ℕ → Line) → Stable Y (Derived Y E)
derived_stable Y E ls k p lt f j le = at_other ls k j p (λ e. absurd (omega arith)) ∙ f j le

pub and_then : {A B : Type 0} (S : List Line → Type 0) (C : At → Type 0) (Q : B → At → Type 0) (P : List Line → Type 0) (ss : List (List ℕ)) (v : ℕ) (p : Prog A) (f : A → Prog B) (s : At)
    → Safe C p s (After S P ss v) → ((a : A) (d : Device) → Is S P d → Safe C (f a) (at d ss v) Q) → Safe C (bind p f) s Q
and_then S C Q P ss v p f s h g =
    safe_bind C Q p f s (safe_weak C C (After S P ss v) (λ a s₁. Safe C (f a) s₁ Q) p s (λ s₁ c. c)
    (λ a s₁ e. subst (λ s₂. Safe C (f a) s₂ Q) (sym e.1) (g a e.0 e.2)) h)

pub after_is : {A : Type 0} (S : List Line → Type 0) (C : At → Type 0) (P : List Line → Type 0) (ss : List (List ℕ)) (u v : ℕ) (p : Prog A) (s : At) → u ≡ v
    → Safe C p s (After S P ss u) → Safe C p s (After S P ss v)
after_is S C P ss u v p s e h = subst (λ w. Safe C p s (After S P ss w)) e h

-- a program that does the next of the writes again, by what is logged
abbrev pub Redoes : (Y : Layout) → (List Line → Type 0) → (At → Type 0) → List (List ℕ) → (ℕ → Line) → List Write → (ℕ → Prog (Unit {0})) → Type 0
Redoes Y S C ss D ws again =
    (us : List Write) (w : Write) (vs : List Write) (d : Device) (u : ℕ) → ws ≡ us ++ w ∷ vs → Is S (Committed Y D ws (w ∷ vs)) d
    → Safe C (again (length us)) (at d ss u) (After S (Committed Y D ws vs) ss (suc (suc (suc u))))

-- R is what a stop may find; C holds wherever it does
module _ (Y : Layout) (S : List Line → Type 0) (stable : Stable Y S) (C : At → Type 0) (ss : List (List ℕ)) (R : List Line → Type 0) (cover : (d : Device) (u : ℕ) → Always R d → C (at d ss u)) where
  pub covered : (P : List Line → Type 0) → ((ls : List Line) → P ls → R ls) → (d : Device) (u : ℕ) → Is S P d → C (at d ss u)
  covered P f d u a = cover d u (λ cs. f (stop d cs) (a.0 cs))

  device_size : (P : List Line → Type 0) → ((ls : List Line) → P ls → Sound Y ls) → (d : Device) → Is S P d → length d.lines ≡ Y.lines
  device_size P f d a = sym (stop_length d []) ∙ (f (stop d []) (a.0 [])).size

  pub write_safe : (P P₁ : List Line → Type 0) (d : Device) (u k : ℕ) (p : Line)
      → ((ls : List Line) → P ls → Sound Y ls) → ((ls : List Line) → P ls → R ls) → ((ls : List Line) → P₁ ls → R ls)
      → k < Y.last → a_line p ≡ true → ((ls : List Line) → P ls → P₁ (set_line ls k p))
      → Is S P d → Safe C (write k p) (at d ss u) (After S P₁ ss (suc u))
  write_safe P P₁ d u k p sound c₀ c₁ lt e f a =
      safe_store C Q (at d ss u) k p (λ l. ask (settle k) (λ m. ret tt)) (covered P c₀ d u a) in_device e
      (safe_settle C Q (at (storing d k p) ss (suc u)) k (λ m. ret tt)
      (cover (storing d k p) (suc u) (always_store P R d k p c₀ (λ ls h. c₁ (set_line ls k p) (f ls h)) a.0))
      (safe_ret C Q (at (settled (storing d k p) k) ss (suc u)) tt (covered P₁ c₁ (settled (storing d k p) k) (suc u) after) (settled (storing d k p) k, refl, after)))
    where
      Q : Unit {0} → At → Type 0
      Q = After S P₁ ss (suc u)

      in_device : k < length d.lines
      in_device = subst (λ n. k < n) (sym (device_size P sound d a)) (let i = Y.inside in omega arith)

      after : Is S P₁ (settled (storing d k p) k)
      after = is_write S P P₁ d k p in_device (stable (seen d) k p lt) f a

  -- a store that needn't be settled, to a line that counts for nothing
  pub store_safe : {A : Type 0} (P : List Line → Type 0) (Q : A → At → Type 0) (d : Device) (u k : ℕ) (p : Line) (f : Line → Prog A)
      → ((ls : List Line) → P ls → Sound Y ls) → ((ls : List Line) → P ls → R ls) → k < Y.lines → a_line p ≡ true → ((ls : List Line) → P ls → P (set_line ls k p)) → (S (seen d) → S (set_line (seen d) k p))
      → Is S P d → ((d₁ : Device) → Is S P d₁ → Safe C (f blank) (at d₁ ss (suc u)) Q) → Safe C (ask (store k p) f) (at d ss u) Q
  store_safe P Q d u k p f sound c lt e g z a h =
      safe_store C Q (at d ss u) k p f (covered P c d u a) (subst (λ n. k < n) (sym (device_size P sound d a)) lt) e
      (h (storing d k p) (is_store S P d k p z g a))

  pub read_safe : {A : Type 0} (P : List Line → Type 0) (Q : A → At → Type 0) (d : Device) (u k : ℕ) (f : Line → Prog A)
      → ((ls : List Line) → P ls → Sound Y ls) → ((ls : List Line) → P ls → R ls) → k < Y.lines → Is S P d
      → Safe C (f (line_at (seen d) k)) (at d ss (suc u)) Q → Safe C (ask (read k) f) (at d ss u) Q
  read_safe P Q d u k f sound c lt a h =
      safe_read C Q (at d ss u) k f (covered P c d u a) ((sound (seen d) (always_seen P d a.0)).lined k lt) h

  -- 1. a write is logged, and all are; a stop finds what there was
  module _ (D : ℕ → Line) (idle : (ls : List Line) → Marks Y D [] ls → R ls) where
    pub log_safe : (us : List Write) (w : Write) (d : Device) (u : ℕ) → length us < Y.most → w.to < Y.lines → a_line w.text ≡ true
        → Is S (Ready Y D us) d → Safe C (log (length us) w) (at d ss u) (After S (Ready Y D (us ++ w ∷ [])) ss (suc (suc u)))
    log_safe us w d u few lt e a =
        let room = Y.room in let inside = Y.inside in
        and_then S C (After S (Ready Y D (us ++ w ∷ [])) ss (suc (suc u))) (Half Y D us w.to) ss (suc u)
        (write (1 + 2 * length us) (word_line w.to)) (λ a. write (2 + 2 * length us) w.text) (at d ss u)
        (write_safe (Ready Y D us) (Half Y D us w.to) d u (1 + 2 * length us) (word_line w.to)
        (λ ls h. h.0.sound) (λ ls h. idle ls h.0) (λ ls h. idle ls h.0.0) (omega arith) (word_line_line w.to)
        (λ ls h. half_set Y D us w.to ls few lt h) a)
        (λ x d₁ a₁. write_safe (Half Y D us w.to) (Ready Y D (us ++ w ∷ [])) d₁ (suc u) (2 + 2 * length us) w.text
        (λ ls h. h.0.0.sound) (λ ls h. idle ls h.0.0) (λ ls h. idle ls h.0) (omega arith) e
        (λ ls h. ready_set Y D us w ls few e h) a₁)

    pub log_all_safe : (us ws : List Write) (d : Device) (u : ℕ) → length us + length ws ≤ Y.most → Good Y ws
        → Is S (Ready Y D us) d → Safe C (log_all (length us) ws) (at d ss u) (After S (Ready Y D (us ++ ws)) ss (u + 2 * length ws))
    unfolding log_all Good
    log_all_safe us [] d u few good a =
        safe_ret C (After S (Ready Y D (us ++ [])) ss (u + 2 * 0)) (at d ss u) tt (covered (Ready Y D us) (λ ls h. idle ls h.0) d u a)
        (d, ap (λ v. at d ss v) (omega arith), subst (λ vs. Is S (Ready Y D vs) d) (sym (append-nil us)) a)
    log_all_safe us (w ∷ ws) d u few good a =
        let inside = Y.inside in
        let e : length (us ++ w ∷ []) ≡ suc (length us) = length-append us (w ∷ []) ∙ omega arith in
        and_then S C (After S (Ready Y D (us ++ w ∷ ws)) ss (u + 2 * suc (length ws))) (Ready Y D (us ++ w ∷ [])) ss (suc (suc u))
        (log (length us) w) (λ x. log_all (suc (length us)) ws) (at d ss u)
        (log_safe us w d u (omega arith) (omega arith) good.2 a)
        (λ x d₁ a₁.
        subst (λ i. Safe C (log_all i ws) (at d₁ ss (suc (suc u))) (After S (Ready Y D (us ++ w ∷ ws)) ss (u + 2 * suc (length ws)))) e
        (subst (λ vs. Safe C (log_all (length (us ++ w ∷ [])) ws) (at d₁ ss (suc (suc u))) (After S (Ready Y D vs) ss (u + 2 * suc (length ws)))) (append_assoc us (w ∷ []) ws)
        (after_is S C (Ready Y D ((us ++ w ∷ []) ++ ws)) ss (suc (suc u) + 2 * length ws) (u + 2 * suc (length ws)) (log_all (length (us ++ w ∷ [])) ws) (at d₁ ss (suc (suc u))) (omega arith)
        (log_all_safe (us ++ w ∷ []) ws d₁ (suc (suc u)) (omega arith) good.3 a₁))))

  -- 2. the writes are committed: a stop finds what there was, or all of them
  pub commit_safe : (D : ℕ → Line) (ws : List Write) (d : Device) (u : ℕ) → length ws ≤ Y.most
      → ((ls : List Line) → Marks Y D [] ls → R ls) → ((ls : List Line) → Marks Y (written D ws) ws ls → R ls)
      → Is S (Ready Y D ws) d → Safe C (commit (length ws)) (at d ss u) (After S (Committed Y (written D ws) ws ws) ss (suc u))
  commit_safe D ws d u few c₀ c₁ a =
      let room = Y.room in let inside = Y.inside in
      write_safe (Ready Y D ws) (Committed Y (written D ws) ws ws) d u 0 (word_line (length ws))
      (λ ls h. h.0.sound) (λ ls h. c₀ ls h.0) (λ ls h. c₁ ls h.0) (omega arith) (word_line_line (length ws))
      (λ ls h. committed_set Y D ws ls few h) a

  -- 3. the writes that are committed are done: a stop finds all of them
  module _ (D : ℕ → Line) (ws : List Write) (few : length ws ≤ Y.most) (good : Good Y ws) (committed : (ls : List Line) → Marks Y D ws ls → R ls) where
    pub apply_safe : (us : List Write) (w : Write) (vs : List Write) (d : Device) (u : ℕ) → ws ≡ us ++ w ∷ vs
        → Is S (Committed Y D ws (w ∷ vs)) d → Safe C (apply w) (at d ss u) (After S (Committed Y D ws vs) ss (suc u))
    apply_safe us w vs d u e a =
        let g = good_at Y us w vs (subst (Good Y) e good) in let inside = Y.inside in
        write_safe (Committed Y D ws (w ∷ vs)) (Committed Y D ws vs) d u w.to w.text
        (λ ls h. h.0.sound) (λ ls h. committed ls h.0) (λ ls h. committed ls h.0) (omega (arith, g.1)) g.2
        (λ ls h. subst (λ xs. Committed Y D xs vs (set_line ls w.to w.text)) (sym e)
        (applied_set Y D us w vs ls (subst (λ xs. length xs ≤ Y.most) e few) (subst (Good Y) e good) (subst (λ xs. Committed Y D xs (w ∷ vs) ls) e h))) a

    pub apply_all_safe : (us vs : List Write) (d : Device) (u : ℕ) → ws ≡ us ++ vs
        → Is S (Committed Y D ws vs) d → Safe C (apply_all vs) (at d ss u) (After S (Committed Y D ws []) ss (u + length vs))
    unfolding apply_all
    apply_all_safe us [] d u e a =
        safe_ret C (After S (Committed Y D ws []) ss (u + 0)) (at d ss u) tt (covered (Committed Y D ws []) (λ ls h. committed ls h.0) d u a)
        (d, ap (λ v. at d ss v) (omega arith), a)
    apply_all_safe us (w ∷ vs) d u e a =
        and_then S C (After S (Committed Y D ws []) ss (u + suc (length vs))) (Committed Y D ws vs) ss (suc u) (apply w) (λ x. apply_all vs) (at d ss u)
        (apply_safe us w vs d u e a)
        (λ x d₁ a₁. after_is S C (Committed Y D ws []) ss (suc u + length vs) (u + suc (length vs)) (apply_all vs) (at d₁ ss (suc u)) (omega arith)
        (apply_all_safe (us ++ w ∷ []) vs d₁ (suc u) (e ∙ sym (append_assoc us (w ∷ []) vs)) a₁))

    -- an entry is read, and something is done with its target and its content
    pub entry_safe : (put : ℕ → Line → Prog (Unit {0})) (us : List Write) (w : Write) (vs : List Write) (d : Device) (u : ℕ) → ws ≡ us ++ w ∷ vs
        → Is S (Committed Y D ws (w ∷ vs)) d → Safe C (put w.to w.text) (at d ss (suc (suc u))) (After S (Committed Y D ws vs) ss (suc (suc (suc u))))
        → Safe C (ask (read (1 + 2 * length us)) (λ k. ask (read (2 + 2 * length us)) (λ p. put (word k) p))) (at d ss u) (After S (Committed Y D ws vs) ss (suc (suc (suc u))))
    entry_safe put us w vs d u e a h =
        let room = Y.room in let inside = Y.inside in
        read_safe P Q d u (1 + 2 * length us) (λ k. ask (read (2 + 2 * length us)) (λ p. put (word k) p)) (λ ls h. h.0.sound) (λ ls h. committed ls h.0) (omega (arith, short)) a
        (read_safe P Q d (suc u) (2 + 2 * length us) (λ p. put (word (line_at (seen d) (1 + 2 * length us))) p) (λ ls h. h.0.sound) (λ ls h. committed ls h.0) (omega (arith, short)) a
        (subst (λ k. Safe C (put k (line_at (seen d) (2 + 2 * length us))) (at d ss (suc (suc u))) Q) (sym there.0)
        (subst (λ p. Safe C (put w.to p) (at d ss (suc (suc u))) Q) (sym there.1) h)))
      where
        P : List Line → Type 0
        P = Committed Y D ws (w ∷ vs)

        Q : Unit {0} → At → Type 0
        Q = After S (Committed Y D ws vs) ss (suc (suc (suc u)))

        short : length us < Y.most
        short = let n = length-append us (w ∷ vs) in let m = ap length e in omega arith

        there : (word (line_at (seen d) (1 + 2 * length us)) ≡ w.to) × (line_at (seen d) (2 + 2 * length us) ≡ w.text)
        there =
            let z : 0 + length us ≡ length us = omega arith in
            subst (λ j. (word (line_at (seen d) (1 + 2 * j)) ≡ w.to) × (line_at (seen d) (2 + 2 * j) ≡ w.text)) z
            (logged_at (seen d) 0 us w vs (subst (λ xs. Logged (seen d) 0 xs) e (always_seen P d a.0).0.logged))

    -- the same as applying them, from the entries
    pub reapply_safe : (us : List Write) (w : Write) (vs : List Write) (d : Device) (u : ℕ) → ws ≡ us ++ w ∷ vs
        → Is S (Committed Y D ws (w ∷ vs)) d → Safe C (reapply (length us)) (at d ss u) (After S (Committed Y D ws vs) ss (suc (suc (suc u))))
    reapply_safe us w vs d u e a = entry_safe write us w vs d u e a (apply_safe us w vs d (suc (suc u)) e a)

    -- all of them, one after the other
    module _ (again : ℕ → Prog (Unit {0})) (all : ℕ → ℕ → Prog (Unit {0})) (none : (i : ℕ) → all i 0 ≡ ret tt) (more : (i m : ℕ) → all i (suc m) ≡ bind (again i) (λ a. all (suc i) m))
        (redoes : Redoes Y S C ss D ws again) where
      pub redo_all_safe : (us vs : List Write) (d : Device) (u : ℕ) → ws ≡ us ++ vs
          → Is S (Committed Y D ws vs) d → Safe C (all (length us) (length vs)) (at d ss u) (After S (Committed Y D ws []) ss (u + 3 * length vs))
      redo_all_safe us [] d u e a =
          subst (λ p. Safe C p (at d ss u) (After S (Committed Y D ws []) ss (u + 3 * 0))) (sym (none (length us)))
          (safe_ret C (After S (Committed Y D ws []) ss (u + 3 * 0)) (at d ss u) tt (covered (Committed Y D ws []) (λ ls h. committed ls h.0) d u a)
          (d, ap (λ v. at d ss v) (omega arith), a))
      redo_all_safe us (w ∷ vs) d u e a =
          let n : length (us ++ w ∷ []) ≡ suc (length us) = length-append us (w ∷ []) ∙ omega arith in
          subst (λ p. Safe C p (at d ss u) (After S (Committed Y D ws []) ss (u + 3 * suc (length vs)))) (sym (more (length us) (length vs)))
          (and_then S C (After S (Committed Y D ws []) ss (u + 3 * suc (length vs))) (Committed Y D ws vs) ss (suc (suc (suc u))) (again (length us)) (λ x. all (suc (length us)) (length vs)) (at d ss u)
          (redoes us w vs d u e a)
          (λ x d₁ a₁.
          subst (λ i. Safe C (all i (length vs)) (at d₁ ss (suc (suc (suc u)))) (After S (Committed Y D ws []) ss (u + 3 * suc (length vs)))) n
          (after_is S C (Committed Y D ws []) ss (suc (suc (suc u)) + 3 * length vs) (u + 3 * suc (length vs)) (all (length (us ++ w ∷ [])) (length vs)) (at d₁ ss (suc (suc (suc u)))) (omega arith)
          (redo_all_safe (us ++ w ∷ []) vs d₁ (suc (suc (suc u))) (e ∙ sym (append_assoc us (w ∷ []) vs)) a₁))))

    pub reapply_all_safe : (us vs : List Write) (d : Device) (u : ℕ) → ws ≡ us ++ vs
        → Is S (Committed Y D ws vs) d → Safe C (reapply_all (length us) (length vs)) (at d ss u) (After S (Committed Y D ws []) ss (u + 3 * length vs))
    unfolding reapply_all
    reapply_all_safe us vs d u e a = redo_all_safe reapply reapply_all (λ i. refl) (λ i m. refl) reapply_safe us vs d u e a

    -- 4. they are cleared
    pub clear_safe : (d : Device) (u : ℕ) → ((ls : List Line) → Marks Y D [] ls → R ls)
        → Is S (Committed Y D ws []) d → Safe C clear (at d ss u) (After S (Marks Y D []) ss (suc u))
    clear_safe d u c a =
        let room = Y.room in let inside = Y.inside in
        write_safe (Committed Y D ws []) (Marks Y D []) d u 0 (word_line 0)
        (λ ls h. h.0.sound) (λ ls h. committed ls h.0) c (omega arith) (word_line_line 0) (λ ls h. clear_set Y D ws ls h) a
