-- What the layers above need of the journal: what a device holds, what survives a stop, and one statement for each program.
use Rattle.std.proofs.Common.{◌≡◌, ℕ, zero, suc, ◌+◌, ◌*◌, ◌<◌, ◌≤◌, true, List, [], ◌∷◌, length, sym, refl, ap, ◌∙◌, subst, inl, inr, arith}
use Rattle.plain.specs.Device.{Device, Line, read_line, storing, settled, stopped, a_line, line_at, so_many_of, fresh}
use Rattle.plain.specs.Run.{read}
use Rattle.programs.specs.Prog.{Prog, ret, ask, bind}
use Rattle.programs.specs.Machine.{At, at, Safe}
use Rattle.programs.proofs.Rules.{safe_weak, safe_ret}
use Rattle.plain.specs.Stopping.{seen, stop, Always, Is}
use Rattle.plain.proofs.Many.{length_many}
use Rattle.plain.proofs.Stops.{stop_length, always_seen, always_store, always_settle, always_quiet}
use Rattle.journal.specs.Journal.{Write, latest, written, value, word, Layout, first, Logged, Good, Says, Marks, Survives, Ready, Committed, Free}
use Rattle.journal.specs.Programs.{Stable, Derived, log_all, commit, apply_all, clear, reapply_all, batch, recover, recover_so, After}
use Rattle.journal.specs.Promises as promises
use Rattle.journal.specs.Promises.{nothing, WholeOrNot, RecoveredSo, LogicalSo}
use Rattle.journal.proofs.Lines.{idle_survives, marks_free, marks_as, survives_says, says_survives}
use Rattle.journal.proofs.Commit.{derived_stable, and_then, after_is, read_safe, log_all_safe, commit_safe, apply_all_safe, reapply_all_safe, clear_safe}

at_of_many : (n k : ℕ) (x : Line) → k < n → line_at (so_many_of n x) k ≡ x
unfolding so_many_of line_at
at_of_many zero k x h = absurd (omega arith)
at_of_many (suc n) zero x h = refl
at_of_many (suc n) (suc k) x h = at_of_many n k x (omega arith)

module _ (Y : Layout) where
  -- idle, and the durable lines are D, whatever stops
  abbrev Holds : (ℕ → Line) → Device → Type 0
  Holds D d = promises.Holds Y D d

  pub holds_read : (D : ℕ → Line) (d : Device) (k : ℕ) → Holds D d → first Y ≤ k → k < Y.last → read_line d k ≡ D k
  unfolding latest
  holds_read D d k h a b = (always_seen (Marks Y D []) d h).says k a b

  pub holds_line : (D : ℕ → Line) (d : Device) (k : ℕ) → Holds D d → k < Y.lines → a_line (read_line d k) ≡ true
  holds_line D d k h a = (always_seen (Marks Y D []) d h).sound.lined k a

  pub holds_size : (D : ℕ → Line) (d : Device) → Holds D d → length d.lines ≡ Y.lines
  holds_size D d h = sym (stop_length d []) ∙ (h []).sound.size

  pub holds_settle : (D : ℕ → Line) (d : Device) (k : ℕ) → Holds D d → Holds D (settled d k)
  holds_settle D d k h = always_settle (Marks Y D []) d k h

  -- derived lines, and entries that are not committed, may be stored at any time
  pub holds_store : (D : ℕ → Line) (d : Device) (k : ℕ) (p : Line) → Free Y 0 k → a_line p ≡ true → Holds D d → Holds D (storing d k p)
  holds_store D d k p f e h =
      always_store (Marks Y D []) (Marks Y D []) d k p (λ ls m. m) (λ ls m. marks_free Y D [] ls k p (omega arith) f e m) h

  pub holds_as : (D D₁ : ℕ → Line) (d : Device) → Says Y D D₁ → Holds D d → Holds D₁ d
  holds_as D D₁ d f h cs = marks_as Y D D₁ [] (stop d cs) f (h cs)

  pub holds_survives : (D : ℕ → Line) (d : Device) (cs : List ℕ) → Holds D d → Survives Y D (stopped d cs).lines
  holds_survives D d cs h = idle_survives Y D (stop d cs) (h cs)

  pub fresh_survives : Survives Y nothing (fresh Y.lines).lines
  unfolding Logged latest word value so_many_of
  fresh_survives =
      let room = Y.room in let inside = Y.inside in
      idle_survives Y nothing (so_many_of Y.lines (so_many_of 64 0)) (record {
        sound = record {
          size = length_many Y.lines (so_many_of 64 0);
          lined = λ k h. ap (λ l. a_line l) (at_of_many Y.lines k (so_many_of 64 0) h);
        };
        head = ap word (at_of_many Y.lines 0 (so_many_of 64 0) (omega arith));
        logged = tt;
        says = λ k a b. at_of_many Y.lines k (so_many_of 64 0) (omega arith);
      })

  abbrev Either : (ℕ → Line) → List Write → List Line → Type 0
  Either D ws ls = promises.Either Y D ws ls

  -- A BATCH: wholly or not at all
  module _ (S : List Line → Type 0) (stable : Stable Y S) (C : At → Type 0) (ss : List (List ℕ)) (D : ℕ → Line) (ws : List Write) where
    pub batch_safe : ((d : Device) (u : ℕ) → Always (Either D ws) d → C (at d ss u)) → (d : Device) (u : ℕ) → length ws ≤ Y.most → Good Y ws → Holds D d → S (seen d)
        → Safe C (batch ws) (at d ss u) (After S (Marks Y (written D ws) []) ss (u + (3 * length ws + 2)))
    unfolding batch Logged
    batch_safe cover d u few good h z =
        and_then S C Q (Ready Y D ws) ss (u + 2 * m) (log_all 0 ws) (λ a. bind (commit m) (λ b. bind (apply_all ws) (λ c. clear))) (at d ss u)
        (log_all_safe Y S stable C ss (Either D ws) cover D before [] ws d u (omega arith) good ((λ cs. (h cs, tt)), z))
        (λ x₁ d₁ a₁. and_then S C Q (Committed Y D₁ ws ws) ss (suc (u + 2 * m)) (commit m) (λ b. bind (apply_all ws) (λ c. clear)) (at d₁ ss (u + 2 * m))
        (commit_safe Y S stable C ss (Either D ws) cover D ws d₁ (u + 2 * m) few before both a₁)
        (λ x₂ d₂ a₂. and_then S C Q (Committed Y D₁ ws []) ss (suc (u + 2 * m) + m) (apply_all ws) (λ c. clear) (at d₂ ss (suc (u + 2 * m)))
        (apply_all_safe Y S stable C ss (Either D ws) cover D₁ ws few good both [] ws d₂ (suc (u + 2 * m)) refl a₂)
        (λ x₃ d₃ a₃. after_is S C (Marks Y D₁ []) ss (suc (suc (u + 2 * m) + m)) (u + (3 * m + 2)) clear (at d₃ ss (suc (u + 2 * m) + m)) (omega arith)
        (clear_safe Y S stable C ss (Either D ws) cover D₁ ws few good both d₃ (suc (u + 2 * m) + m) (λ ls k. inr (idle_survives Y D₁ ls k)) a₃))))
      where
        m : ℕ
        m = length ws

        D₁ : ℕ → Line
        D₁ = written D ws

        Q : Unit {0} → At → Type 0
        Q = After S (Marks Y D₁ []) ss (u + (3 * m + 2))

        before : (ls : List Line) → Marks Y D [] ls → Either D ws ls
        before ls k = inl (idle_survives Y D ls k)

        both : (ls : List Line) → Marks Y D₁ ws ls → Either D ws ls
        both ls k = inr (record { committed = ws; few = few; good = good; marks = k })

  -- AT POWER: what survived is there again
  module _ (S : List Line → Type 0) (stable : Stable Y S) (C : At → Type 0) (ss : List (List ℕ)) (D : ℕ → Line) where
    abbrev pub Recovered : ℕ → Unit {0} → At → Type 0
    Recovered u a s = (v : ℕ) × (v ≤ u + (3 * Y.most + 2)) × After S (Marks Y D []) ss v a s

    -- the superblock is read, and so many writes are done again and cleared: `count` says how many a superblock means, `all` does them again
    module _ (count : Line → ℕ) (counts : (l : Line) (m : ℕ) → word l ≡ m → m ≤ Y.most → count l ≡ m) (all : ℕ → Prog (Unit {0}))
        (redone : (ws : List Write) → length ws ≤ Y.most → Good Y ws → ((ls : List Line) → Marks Y D ws ls → Survives Y D ls) → ((d : Device) (u : ℕ) → Always (Survives Y D) d → C (at d ss u))
        → (d : Device) (u : ℕ) → Is S (Committed Y D ws ws) d → Safe C (all (length ws)) (at d ss u) (After S (Committed Y D ws []) ss (u + 3 * length ws)))
        (so : ℕ → Prog (Unit {0})) (none : so 0 ≡ ret tt) (some : (m : ℕ) → so (suc m) ≡ bind (all (suc m)) (λ a. clear)) where
      pub redo_safe : ((d : Device) (u : ℕ) → Always (Survives Y D) d → C (at d ss u)) → (d : Device) (u : ℕ) → d.cache ≡ [] → Survives Y D d.lines → S (seen d)
          → Safe C (ask (read 0) (λ l. so (count l))) (at d ss u) (Recovered u)
      unfolding latest
      redo_safe cover d u quiet s z =
          read_safe Y S stable C ss (Survives Y D) cover (Marks Y D s.committed) (Recovered u) d u 0 (λ l. so (count l))
          (λ ls h. h.sound) (commits s.committed s.few s.good) (let room = Y.room in let inside = Y.inside in omega arith) (here, z)
          (subst (λ m. Safe C (so m) (at d ss (suc u)) (Recovered u)) (sym (counts (line_at (seen d) 0) (length s.committed) (always_seen (Marks Y D s.committed) d here).head s.few))
          (go s.committed s.few s.good here))
        where
          here : Always (Marks Y D s.committed) d
          here = always_quiet (Marks Y D s.committed) d quiet s.marks

          commits : (ws : List Write) → length ws ≤ Y.most → Good Y ws → (ls : List Line) → Marks Y D ws ls → Survives Y D ls
          commits ws few good ls k = record { committed = ws; few = few; good = good; marks = k }

          go : (ws : List Write) → length ws ≤ Y.most → Good Y ws → Always (Marks Y D ws) d → Safe C (so (length ws)) (at d ss (suc u)) (Recovered u)
          go [] few good a =
              subst (λ p. Safe C p (at d ss (suc u)) (Recovered u)) (sym none)
              (safe_ret C (Recovered u) (at d ss (suc u)) tt (cover d (suc u) (λ cs. idle_survives Y D (stop d cs) (a cs))) (suc u, omega arith, (d, refl, (a, z))))
          go (w ∷ ws) few good a =
              let m : ℕ = length (w ∷ ws) in
              subst (λ p. Safe C p (at d ss (suc u)) (Recovered u)) (sym (some (length ws)))
              (and_then S C (Recovered u) (Committed Y D (w ∷ ws) []) ss (suc u + 3 * m) (all m) (λ x. clear) (at d ss (suc u))
              (redone (w ∷ ws) few good (commits (w ∷ ws) few good) cover d (suc u) ((λ cs. (a cs, (a cs).says)), z))
              (λ x d₁ a₁. safe_weak C C (After S (Marks Y D []) ss (suc (suc u + 3 * m))) (Recovered u) clear (at d₁ ss (suc u + 3 * m)) (λ s₁ c. c)
              (λ y s₁ k. (suc (suc u + 3 * m), omega arith, k))
              (clear_safe Y S stable C ss (Survives Y D) cover D (w ∷ ws) few good (commits (w ∷ ws) few good) d₁ (suc u + 3 * m) (idle_survives Y D) a₁)))

    pub recover_safe : ((d : Device) (u : ℕ) → Always (Survives Y D) d → C (at d ss u)) → (d : Device) (u : ℕ) → d.cache ≡ [] → Survives Y D d.lines → S (seen d)
        → Safe C recover (at d ss u) (Recovered u)
    unfolding recover_so
    recover_safe =
        redo_safe word (λ l m e h. e) (reapply_all 0)
        (λ ws few good marks cover d u a. reapply_all_safe Y S stable C ss (Survives Y D) cover D ws few good marks [] ws d u refl a)
        recover_so refl (λ m. refl)

  abbrev pub None : List Line → Type 0
  None ls = Unit {0}

  -- recovering, stopped at any act, can begin again, as often as it likes
  abbrev Recovers : (ℕ → Line) → Device → Type 0
  Recovers D d = promises.Recovers Y D d

  -- a program of which this is proved with nothing to keep beside the journal
  pub recovers_by : (p : Prog (Unit {0})) (D : ℕ → Line) (d : Device) (cs : List ℕ)
      → Safe (λ s. Always (Survives Y D) s.device) p (at (stopped d cs) [] 0) (Recovered None (λ ls k p lt x. tt) (λ s. Always (Survives Y D) s.device) [] D 0)
      → Safe (λ s. Always (Survives Y D) s.device) p (at (stopped d cs) [] 0) (λ a s. Holds D s.device × (s.used ≤ 3 * Y.most + 2))
  recovers_by p D d cs h =
      safe_weak C C (Recovered None (λ ls k p lt x. tt) C [] D 0) (λ x s. Holds D s.device × (s.used ≤ 3 * Y.most + 2)) p (at (stopped d cs) [] 0) (λ s c. c)
      (λ x s h. (
        subst (λ (s : At). Holds D s.device) (sym h.2.1) h.2.2.0,
        subst (λ (s : At). s.used ≤ 3 * Y.most + 2) (sym h.2.1) (let b = h.1 in omega arith),
      ))
      h
    where
      C : At → Type 0
      C s = Always (Survives Y D) s.device

  pub recovers : (D : ℕ → Line) (d : Device) (cs : List ℕ) → Always (Survives Y D) d → Recovers D (stopped d cs)
  recovers D d cs a =
      recovers_by recover D d cs
      (recover_safe None (λ ls k p lt x. tt) (λ s. Always (Survives Y D) s.device) [] D (λ d₁ u b. b) (stopped d cs) 0 refl (a cs) tt)

pub whole_or_not : WholeOrNot
unfolding WholeOrNot
whole_or_not Y D ws d few good h =
    after_is (Derived Y (read_line d)) C (Marks Y (written D ws) []) [] (0 + (3 * length ws + 2)) (3 * length ws + 2) (batch ws) (at d [] 0) (omega arith)
    (batch_safe Y (Derived Y (read_line d)) (derived_stable Y (read_line d)) C [] D ws (λ d₁ u a. a) d 0 few good h (λ k le. refl))
  where
    C : At → Type 0
    C s = (cs : List ℕ) → promises.Either Y D ws (stopped s.device cs).lines

pub recovered_so : RecoveredSo
unfolding RecoveredSo
recovered_so Y D d cs a = recovers Y D d cs a

pub logical_so : LogicalSo
unfolding LogicalSo
logical_so Y D ls = (survives_says Y D ls, says_survives Y D ls)
