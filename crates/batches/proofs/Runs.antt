-- What the journal's lines are in words, and how its steps and loops are put together from those of the tape.
use Rattle.std.proofs.Common.{◌≡◌, ℕ, zero, suc, ◌+◌, ◌-◌, ◌*◌, ◌<◌, ◌≤◌, Bool, List, ◌∷◌, length, get_or, take, drop, sym, refl, ap, ◌∙◌, subst, arith}
use Rattle.std.proofs.lemmas.Bool.{le-leb, lt-leb}
use Rattle.std.proofs.lemmas.List.{drop_more, drop_all}
use Rattle.plain.specs.Device.{Line}
use Rattle.plain.specs.Read.{number}
use Rattle.plain.specs.Run.{Act, read, store, settle}
use Rattle.plain.specs.Term.{pick}
use Rattle.plain.proofs.Reaching.{places_length}
use Rattle.programs.specs.Prog.{Prog, ret, ask, bind, Out, came, wants, replay}
use Rattle.journal.specs.Journal.{Write, word, word_line}
use Rattle.journal.specs.Programs.{write, log, log_all, apply, apply_all, commit, clear, batch}
use Rattle.journal.proofs.Lines.{word_number}
use Rattle.guarded_journal.specs.Programs.{committed, is_durable_lem, put_back, reapply, reapply_all, recover, recover_so}
use Rattle.lines.specs.Told.{does}
use Rattle.lines.specs.Words.{number_line}
use Rattle.lines.proofs.Tapes.{goes, stops, ends, ask_goes, ask_stops}
use Rattle.batches.specs.declared.steps.Write as code
use Rattle.batches.specs.Writes.{write_of, writes_of}

pub number_word : (n : ℕ) → number_line n ≡ word_line n
unfolding number_line word_line
number_word n = refl

-- a line is stored, and settled
pub write_goes : (k : ℕ) (p : Line) (t t' : List Line) (o : Out (Unit {0})) → replay (does (store k p)) t ≡ came tt t' → replay (does (settle k)) t' ≡ o → replay (write k p) t ≡ o
unfolding bind
write_goes k p t t' o e h = goes (does (store k p)) (λ a. does (settle k)) t t' tt o e h

pub write_stops : (k : ℕ) (p : Line) (t : List Line) (x : Act) → replay (does (store k p)) t ≡ wants x → replay (write k p) t ≡ wants x
unfolding bind
write_stops k p t x e = stops (does (store k p)) (λ a. does (settle k)) t x e

-- the superblock is written
pub number_written : (k n : ℕ) (l : Line) (t : List Line) (o : Out (Unit {0})) → l ≡ number_line n → replay (write k l) t ≡ o → replay (write k (word_line n)) t ≡ o
number_written k n l t o e h = subst (λ p. replay (write k p) t ≡ o) (e ∙ number_word n) h

-- an entry is logged: its target, and its content
module _ (i k : ℕ) (w : Write) (l : Line) (t : List Line) (e : k ≡ 1 + 2 * i) (f : l ≡ number_line w.to) where
  target : (o : Out (Unit {0})) → replay (write k l) t ≡ o → replay (write (1 + 2 * i) (word_line w.to)) t ≡ o
  target o h = number_written (1 + 2 * i) w.to l t o f (subst (λ j. replay (write j l) t ≡ o) e h)

  pub log_goes : (j : ℕ) (t' : List Line) (o : Out (Unit {0})) → j ≡ 2 + 2 * i → replay (write k l) t ≡ came tt t' → replay (write j w.text) t' ≡ o → replay (log i w) t ≡ o
  log_goes j t' o g h q =
      goes (write (1 + 2 * i) (word_line w.to)) (λ a. write (2 + 2 * i) w.text) t t' tt o (target (came tt t') h) (subst (λ n. replay (write n w.text) t' ≡ o) g q)

  pub log_stops : (x : Act) → replay (write k l) t ≡ wants x → replay (log i w) t ≡ wants x
  log_stops x h = stops (write (1 + 2 * i) (word_line w.to)) (λ a. write (2 + 2 * i) w.text) t x (target (wants x) h)

-- the superblock is read
module _ (most : ℕ) (t t' : List Line) (l : Line) (e : replay (ask (read 0) ret) t ≡ came l t') where
  pub committed_none : (n : ℕ) → n ≡ number (take 8 l) → most < n → replay (ask (read 0) (λ p. ret (committed most p))) t ≡ came 0 t'
  committed_none n h b =
      ask_goes (read 0) (λ p. ret (committed most p)) t t' l (came 0 t') e (ends t' (sym (rw (word_number l, ← h, lt-leb n most b))))

  pub committed_some : (n : ℕ) → n ≡ number (take 8 l) → n ≤ most → replay (ask (read 0) (λ p. ret (committed most p))) t ≡ came n t'
  committed_some n h b =
      ask_goes (read 0) (λ p. ret (committed most p)) t t' l (came n t') e (ends t' (sym (rw (word_number l, ← h, le-leb n most b))))

-- an entry is applied by what is logged of it
module _ (most last i : ℕ) (k : ℕ) (t : List Line) (g : k ≡ 1 + 2 * i) where
  abbrev then_content : Line → Prog (Unit {0})
  then_content l = ask (read (2 + 2 * i)) (λ p. put_back most last (word l) p)

  pub reapply_stops : (x : Act) → replay (ask (read k) ret) t ≡ wants x → replay (reapply most last i) t ≡ wants x
  reapply_stops x e = ask_stops (read (1 + 2 * i)) then_content t x (subst (λ j. replay (ask (read j) ret) t ≡ wants x) g e)

  module _ (j : ℕ) (t' : List Line) (l : Line) (h : j ≡ 2 + 2 * i) (e : replay (ask (read k) ret) t ≡ came l t') where
    one_read : (o : Out (Unit {0})) → replay (then_content l) t' ≡ o → replay (reapply most last i) t ≡ o
    one_read o q = ask_goes (read (1 + 2 * i)) then_content t t' l o (subst (λ n. replay (ask (read n) ret) t ≡ came l t') g e) q

    pub reapply_stops_then : (x : Act) → replay (ask (read j) ret) t' ≡ wants x → replay (reapply most last i) t ≡ wants x
    reapply_stops_then x f = one_read (wants x) (ask_stops (read (2 + 2 * i)) (λ p. put_back most last (word l) p) t' x (subst (λ n. replay (ask (read n) ret) t' ≡ wants x) h f))

    pub reapply_goes : (t'' : List Line) (p : Line) (n : ℕ) (b : Bool) (o : Out (Unit {0})) → replay (ask (read j) ret) t' ≡ came p t'' → n ≡ number (take 8 l) → is_durable_lem most last n ≡ b
        → replay (pick b (write n p) (ret tt)) t'' ≡ o → replay (reapply most last i) t ≡ o
    reapply_goes t'' p n b o f m d q =
        one_read o (ask_goes (read (2 + 2 * i)) (λ p. put_back most last (word l) p) t' t'' p o (subst (λ z. replay (ask (read z) ret) t' ≡ came p t'') h f) (rw (word_number l, ← m, d) q))

-- loops: what is left gives the whole
each_drop : (ws : List code.Write) (i : ℕ) (d : code.Write) → i < length ws → writes_of (drop i ws) ≡ write_of (get_or ws i d) ∷ writes_of (drop (i + 1) ws)
each_drop ws i d h = rw (drop_more ws i d h)

module _ (ws : List code.Write) (i : ℕ) (d : code.Write) (h : i < length ws) (t : List Line) (o : Out (Unit {0})) where
  pub log_left : (x : Act) → replay (log_all i (writes_of (drop i ws))) t ≡ o → replay (log i (write_of (get_or ws i d))) t ≡ wants x → o ≡ wants x
  unfolding log_all
  log_left x inv q = sym inv ∙ rw (each_drop ws i d h) (stops (log i (write_of (get_or ws i d))) (λ a. log_all (suc i) (writes_of (drop (i + 1) ws))) t x q)

  pub log_turn : (t' : List Line) → replay (log_all i (writes_of (drop i ws))) t ≡ o → replay (log i (write_of (get_or ws i d))) t ≡ came tt t' → replay (log_all (i + 1) (writes_of (drop (i + 1) ws))) t' ≡ o
  unfolding log_all
  log_turn t' inv q =
      let n : i + 1 ≡ suc i = omega arith in
      sym (goes (log i (write_of (get_or ws i d))) (λ a. log_all (suc i) (writes_of (drop (i + 1) ws))) t t' tt _ q (ap (λ j. replay (log_all j (writes_of (drop (i + 1) ws))) t') (sym n)))
      ∙ (ap (λ vs. replay (log_all i vs) t) (sym (each_drop ws i d h)) ∙ inv)

  pub apply_left : (x : Act) → replay (apply_all (writes_of (drop i ws))) t ≡ o → replay (apply (write_of (get_or ws i d))) t ≡ wants x → o ≡ wants x
  unfolding apply_all
  apply_left x inv q = sym inv ∙ rw (each_drop ws i d h) (stops (apply (write_of (get_or ws i d))) (λ a. apply_all (writes_of (drop (i + 1) ws))) t x q)

  pub apply_turn : (t' : List Line) → replay (apply_all (writes_of (drop i ws))) t ≡ o → replay (apply (write_of (get_or ws i d))) t ≡ came tt t' → replay (apply_all (writes_of (drop (i + 1) ws))) t' ≡ o
  unfolding apply_all
  apply_turn t' inv q =
      sym (goes (apply (write_of (get_or ws i d))) (λ a. apply_all (writes_of (drop (i + 1) ws))) t t' tt _ q refl)
      ∙ (ap (λ vs. replay (apply_all vs) t) (sym (each_drop ws i d h)) ∙ inv)

pub log_done : (ws : List code.Write) (i : ℕ) (t : List Line) (o : Out (Unit {0})) → length ws ≤ i → replay (log_all i (writes_of (drop i ws))) t ≡ o → o ≡ came tt t
unfolding log_all replay
log_done ws i t o h inv = sym inv ∙ rw (drop_all i ws h)

pub apply_done : (ws : List code.Write) (i : ℕ) (t : List Line) (o : Out (Unit {0})) → length ws ≤ i → replay (apply_all (writes_of (drop i ws))) t ≡ o → o ≡ came tt t
unfolding apply_all replay
apply_done ws i t o h inv = sym inv ∙ rw (drop_all i ws h)

module _ (most last m i : ℕ) (h : i < m) (t : List Line) (o : Out (Unit {0})) (inv : replay (reapply_all most last i (m - i)) t ≡ o) where
  one_more : replay (bind (reapply most last i) (λ a. reapply_all most last (suc i) (m - (i + 1)))) t ≡ o
  unfolding reapply_all
  one_more = let z : m - i ≡ suc (m - (i + 1)) = omega arith in rw z at inv

  pub redo_left : (x : Act) → replay (reapply most last i) t ≡ wants x → o ≡ wants x
  redo_left x q = sym one_more ∙ stops (reapply most last i) (λ a. reapply_all most last (suc i) (m - (i + 1))) t x q

  pub redo_turn : (t' : List Line) → replay (reapply most last i) t ≡ came tt t' → replay (reapply_all most last (i + 1) (m - (i + 1))) t' ≡ o
  redo_turn t' q =
      let n : i + 1 ≡ suc i = omega arith in
      sym (goes (reapply most last i) (λ a. reapply_all most last (suc i) (m - (i + 1))) t t' tt _ q (ap (λ j. replay (reapply_all most last j (m - (i + 1))) t') (sym n))) ∙ one_more

pub redo_done : (most last m i : ℕ) (t : List Line) (o : Out (Unit {0})) → m ≤ i → replay (reapply_all most last i (m - i)) t ≡ o → o ≡ came tt t
unfolding reapply_all replay
redo_done most last m i t o h inv = let z : m - i ≡ 0 = omega arith in sym inv ∙ rw z

-- a whole batch: logged, committed, applied, cleared
module _ (ws : List code.Write) (t : List Line) where
  long : length (writes_of ws) ≡ length ws
  long = places_length write_of ws

  abbrev vs : List Write
  vs = writes_of ws

  abbrev then_clear : Unit {0} → Prog (Unit {0})
  then_clear a = bind (apply_all vs) (λ b. clear)

  abbrev then_commit : Unit {0} → Prog (Unit {0})
  then_commit a = bind (commit (length vs)) then_clear

  pub batch_stops : (x : Act) → replay (log_all 0 vs) t ≡ wants x → replay (batch vs) t ≡ wants x
  unfolding batch
  batch_stops x e = stops (log_all 0 vs) then_commit t x e

  module _ (t₁ : List Line) (e : replay (log_all 0 vs) t ≡ came tt t₁) where
    pub batch_logged_stops : (x : Act) → replay (commit (length ws)) t₁ ≡ wants x → replay (batch vs) t ≡ wants x
    unfolding batch
    batch_logged_stops x f =
        goes (log_all 0 vs) then_commit t t₁ tt (wants x) e (stops (commit (length vs)) then_clear t₁ x (subst (λ n. replay (commit n) t₁ ≡ wants x) (sym long) f))

    module _ (t₂ : List Line) (f : replay (commit (length ws)) t₁ ≡ came tt t₂) where
      committed_so : (o : Out (Unit {0})) → replay (then_clear tt) t₂ ≡ o → replay (batch vs) t ≡ o
      unfolding batch
      committed_so o h =
          goes (log_all 0 vs) then_commit t t₁ tt o e (goes (commit (length vs)) then_clear t₁ t₂ tt o (subst (λ n. replay (commit n) t₁ ≡ came tt t₂) (sym long) f) h)

      pub batch_committed_stops : (x : Act) → replay (apply_all vs) t₂ ≡ wants x → replay (batch vs) t ≡ wants x
      batch_committed_stops x g = committed_so (wants x) (stops (apply_all vs) (λ b. clear) t₂ x g)

      pub batch_goes : (t₃ : List Line) (o : Out (Unit {0})) → replay (apply_all vs) t₂ ≡ came tt t₃ → replay clear t₃ ≡ o → replay (batch vs) t ≡ o
      batch_goes t₃ o g h = committed_so o (goes (apply_all vs) (λ b. clear) t₂ t₃ tt o g h)

-- recovery: the superblock, the entries, and cleared
module _ (most last : ℕ) (t : List Line) where
  abbrev look : Prog ℕ
  look = ask (read 0) (λ l. ret (committed most l))

  pub recover_stops : (x : Act) → replay look t ≡ wants x → replay (recover most last) t ≡ wants x
  unfolding bind
  recover_stops x e = stops look (λ n. recover_so most last n) t x e

  module _ (t' : List Line) (m : ℕ) (e : replay look t ≡ came m t') where
    looked : (o : Out (Unit {0})) → replay (recover_so most last m) t' ≡ o → replay (recover most last) t ≡ o
    unfolding bind
    looked o h = goes look (λ n. recover_so most last n) t t' m o e h

    pub recover_none : m ≡ 0 → replay (recover most last) t ≡ came tt t'
    unfolding recover_so
    recover_none z = looked (came tt t') (rw z (ends t' refl))

    again : (o : Out (Unit {0})) (m : ℕ) → (m ≡ 0 → ⊥) → replay (bind (reapply_all most last 0 m) (λ a. clear)) t' ≡ o → replay (recover_so most last m) t' ≡ o
    unfolding recover_so
    again o zero n h = absurd (n refl)
    again o (suc m) n h = h

    pub recover_some_stops : (x : Act) → (m ≡ 0 → ⊥) → replay (reapply_all most last 0 m) t' ≡ wants x → replay (recover most last) t ≡ wants x
    recover_some_stops x n h = looked (wants x) (again (wants x) m n (stops (reapply_all most last 0 m) (λ a. clear) t' x h))

    pub recover_some : (t'' : List Line) (o : Out (Unit {0})) → (m ≡ 0 → ⊥) → replay (reapply_all most last 0 m) t' ≡ came tt t'' → replay clear t'' ≡ o → replay (recover most last) t ≡ o
    recover_some t'' o n h q = looked o (again o m n (goes (reapply_all most last 0 m) (λ a. clear) t' t'' tt o h q))
