-- Batches and guarded recovery as loops over stages, an entry to a stage; and how short the programs are.
use Rattle.std.proofs.Common.{◌≡◌, ℕ, zero, suc, ◌+◌, ◌*◌, ◌≤◌, Bool, true, false, List, [], length, subst, arith}
use Rattle.plain.specs.Term.{pick}
use Rattle.plain.specs.Device.{Device, Line}
use Rattle.plain.specs.Run.{read}
use Rattle.plain.specs.Stopping.{seen, Always}
use Rattle.programs.specs.Prog.{Prog, ret, ask, bind, Short}
use Rattle.programs.proofs.Programs.{short_bind}
use Rattle.programs.specs.Machine.{Machine, Next, then, At, at, Going}
use Rattle.journal.specs.Journal.{Write, written, word, Layout, Good, Survives}
use Rattle.journal.specs.Programs.{Stable, write}
use Rattle.journal.specs.Promises.{Holds, Either}
use Rattle.journal.proofs.Stages.{Any, Makes, Logging, Redoing, batch_goes_by, recover_goes_by}
use Rattle.guarded_journal.specs.Programs.{is_durable_lem, reapply, reapply_all, committed}
use Rattle.guarded_journal.proofs.Recovery.{committed_is, reapply_safe}

pub reapply_short : (most last i : ℕ) → Short 4 (reapply most last i) Any
unfolding Short
reapply_short most last i = λ k e p f. go (is_durable_lem most last (word k)) (word k) p
  where
    go : (b : Bool) (k : ℕ) (p : Line) → Short 2 (pick b (write k p) (ret tt)) Any
    go true k p = λ l g m h. tt
    go false k p = tt

pub reapply_all_short : (most last i m : ℕ) → Short (4 * m) (reapply_all most last i m) Any
unfolding reapply_all Short
reapply_all_short most last i zero = tt
reapply_all_short most last i (suc m) =
    subst (λ n. Short n (bind (reapply most last i) (λ a. reapply_all most last (suc i) m)) Any) (omega arith)
    (short_bind Any Any 4 (4 * m) (reapply most last i) (λ a. reapply_all most last (suc i) m) (reapply_short most last i) (λ a t. reapply_all_short most last (suc i) m))

-- registers whose stages do m writes again by the entries, guarded, and forget
abbrev pub Reapplying : (M : Machine) → (M.Reg → Type 0) → Layout → ℕ → (ℕ → M.Reg) → Prog (Next M.Reg) → Type 0
Reapplying M Ok Y m reg fin = Redoing M Ok (reapply Y.most Y.last) m reg fin

module _ (M : Machine) (Ok : M.Reg → Type 0) (C : At → Type 0) (Q : M.Reg → ℕ → At → Type 0) (Y : Layout) (S : List Line → Type 0) (stable : Stable Y S) (ss : List (List ℕ)) (D : ℕ → Line) where
  pub batch_goes : (ws : List Write) → length ws ≤ Y.most → Good Y ws → ((d : Device) (u : ℕ) → Always (Either Y D ws) d → C (at d ss u))
      → (cost : ℕ) (make : ℕ → Prog Write) (logging reapplying : ℕ → M.Reg) (fin : Prog (Next M.Reg))
      → Makes S C Y ss D ws cost make → Logging M Ok (length ws) make logging (reapplying 0) → Reapplying M Ok Y (length ws) reapplying fin
      → (d : Device) (u : ℕ) → Holds Y D d → S (seen d)
      → ((d₁ : Device) (v : ℕ) → v ≤ u + (length ws * (cost + 2) + 3 * length ws + 2) → Holds Y (written D ws) d₁ → S (seen d₁) → Going M Ok C Q fin (at d₁ ss v))
      → Going M Ok C Q (M.stage (logging 0)) (at d ss u)
  batch_goes = batch_goes_by M Ok C Q Y S stable ss D (reapply Y.most Y.last) (reapply_safe Y S stable C ss)

  pub recover_goes : ((d : Device) (u : ℕ) → Always (Survives Y D) d → C (at d ss u))
      → (look : ℕ → Prog (Next M.Reg)) (reapplying : ℕ → ℕ → M.Reg) (fin : Prog (Next M.Reg))
      → look 0 ≡ fin → ((m : ℕ) → suc m ≤ Y.most → (look (suc m) ≡ ret (then (reapplying (suc m) 0))) × Reapplying M Ok Y (suc m) (reapplying (suc m)) fin)
      → (d : Device) (u : ℕ) → d.cache ≡ [] → Survives Y D d.lines → S (seen d)
      → ((d₁ : Device) (v : ℕ) → v ≤ u + (3 * Y.most + 2) → Holds Y D d₁ → S (seen d₁) → Going M Ok C Q fin (at d₁ ss v))
      → Going M Ok C Q (ask (read 0) (λ l. look (committed Y.most l))) (at d ss u)
  recover_goes = recover_goes_by M Ok C Q Y S stable ss D (committed Y.most) (committed_is Y.most) (reapply Y.most Y.last) (reapply_safe Y S stable C ss)
