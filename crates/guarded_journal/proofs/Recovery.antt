-- Guarded recovery is safe: of what a batch left it passes over nothing, so it does what the journal's own recovery does.
use Rattle.std.proofs.Common.{◌≡◌, ℕ, suc, ◌≤◌, true, List, [], length, sym, refl, subst}
use Rattle.std.proofs.lemmas.Bool.{le-leb, lt-ltb}
use Rattle.plain.specs.Term.{pick}
use Rattle.plain.specs.Device.{Device, Line, stopped}
use Rattle.plain.specs.Stopping.{seen, Always}
use Rattle.programs.specs.Prog.{ret}
use Rattle.programs.specs.Machine.{At, at, Safe}
use Rattle.journal.specs.Journal.{Write, word, Layout, Good, Marks, Survives, Committed}
use Rattle.journal.specs.Programs.{Stable, After, write}
use Rattle.journal.proofs.Lines.{good_at}
use Rattle.journal.proofs.Commit.{Redoes, entry_safe, apply_safe, redo_all_safe}
use Rattle.journal.proofs.Holds.{Recovered, None, redo_safe, recovers_by}
use Rattle.guarded_journal.specs.Programs.{is_durable_lem, put_back, reapply, reapply_all, committed, recover, recover_so}
use Rattle.guarded_journal.specs.Promises.{RecoveredSo}

-- a superblock that a batch left says how many
pub committed_is : (most : ℕ) (l : Line) (m : ℕ) → word l ≡ m → m ≤ most → committed most l ≡ m
committed_is most l m e h = rw (e, le-leb m most h)

module _ (Y : Layout) (S : List Line → Type 0) (stable : Stable Y S) (C : At → Type 0) (ss : List (List ℕ)) where
  -- an entry that a batch left is not passed over
  pub reapply_safe : (R : List Line → Type 0) (cover : (d : Device) (u : ℕ) → Always R d → C (at d ss u)) (D : ℕ → Line) (ws : List Write)
      → length ws ≤ Y.most → Good Y ws → ((ls : List Line) → Marks Y D ws ls → R ls) → Redoes Y S C ss D ws (reapply Y.most Y.last)
  reapply_safe R cover D ws few good marks us w vs d u e a =
      entry_safe Y S stable C ss R cover D ws few good marks (put_back Y.most Y.last) us w vs d u e a
      (subst (λ b. Safe C (pick b (write w.to w.text) (ret tt)) (at d ss (suc (suc u))) (After S (Committed Y D ws vs) ss (suc (suc (suc u))))) (sym inner)
      (apply_safe Y S stable C ss R cover D ws few good marks us w vs d (suc (suc u)) e a))
    where
      inner : is_durable_lem Y.most Y.last w.to ≡ true
      inner = let g = good_at Y us w vs (subst (Good Y) e good) in rw (le-leb _ _ g.0, lt-ltb _ _ g.1)

  pub recover_safe : (D : ℕ → Line) → ((d : Device) (u : ℕ) → Always (Survives Y D) d → C (at d ss u)) → (d : Device) (u : ℕ) → d.cache ≡ [] → Survives Y D d.lines → S (seen d)
      → Safe C (recover Y.most Y.last) (at d ss u) (Recovered Y S stable C ss D u)
  unfolding reapply_all recover_so
  recover_safe D =
      redo_safe Y S stable C ss D (committed Y.most) (committed_is Y.most) (reapply_all Y.most Y.last 0)
      (λ ws few good marks cover d u a. redo_all_safe Y S stable C ss (Survives Y D) cover D ws few good marks (reapply Y.most Y.last) (reapply_all Y.most Y.last)
      (λ i. refl) (λ i m. refl) (reapply_safe (Survives Y D) cover D ws few good marks) [] ws d u refl a)
      (recover_so Y.most Y.last) refl (λ m. refl)

pub recovered_so : RecoveredSo
unfolding RecoveredSo
recovered_so Y D d cs a =
    recovers_by Y (recover Y.most Y.last) D d cs
    (recover_safe Y (None Y) (λ ls k p lt x. tt) (λ s. Always (Survives Y D) s.device) [] D (λ d₁ u b. b) (stopped d cs) 0 refl (a cs) tt)
