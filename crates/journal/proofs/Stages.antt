-- The journal's phases as loops over stages, an entry to a stage; and how short each program is.
use Rattle.std.proofs.Common.{◌≡◌, ℕ, zero, suc, ◌+◌, ◌*◌, ◌<◌, ◌≤◌, true, List, [], ◌∷◌, ◌++◌, length, sym, refl, ap, ◌∙◌, subst, inl, inr, append_assoc, append-nil, suc-mul, arith, length-append}
use Rattle.plain.specs.Device.{Device, Line, a_line, line_at}
use Rattle.plain.specs.Run.{read}
use Rattle.programs.specs.Prog.{Prog, ret, ask, bind, Short}
use Rattle.programs.proofs.Programs.{short_bind}
use Rattle.programs.specs.Machine.{Machine, Next, then, At, at, answer, after, Safe, Going, asks, turns}
use Rattle.programs.proofs.Rules.{tidy_is, safe_weak}
use Rattle.plain.specs.Stopping.{seen, stop, Always, Is}
use Rattle.plain.proofs.Stops.{always_seen, always_quiet}
use Rattle.journal.specs.Journal.{Write, written, word, word_line, Layout, first, Logged, Good, Marks, Survives, Ready, Committed}
use Rattle.journal.specs.Programs.{Stable, write, log, log_all, commit, apply, apply_all, clear, reapply, reapply_all, After}
use Rattle.journal.specs.Promises.{Holds, Either}
use Rattle.journal.proofs.Lines.{good_at, idle_survives}
use Rattle.journal.proofs.Commit.{Redoes, log_safe, commit_safe, reapply_safe, clear_safe}

abbrev pub Any : {A : Type 0} → A → Type 0
Any a = Unit {0}

pub write_short : (k : ℕ) (p : Line) → Short 2 (write k p) Any
unfolding Short
write_short k p = λ l e m f. tt

pub log_short : (i : ℕ) (w : Write) → Short 4 (log i w) Any
log_short i w =
    short_bind Any Any 2 2 (write (1 + 2 * i) (word_line w.to)) (λ a. write (2 + 2 * i) w.text) (write_short (1 + 2 * i) (word_line w.to)) (λ a t. write_short (2 + 2 * i) w.text)

pub reapply_short : (i : ℕ) → Short 4 (reapply i) Any
unfolding Short
reapply_short i = λ k e p f l g m h. tt

pub log_all_short : (i : ℕ) (ws : List Write) → Short (4 * length ws) (log_all i ws) Any
unfolding log_all Short
log_all_short i [] = tt
log_all_short i (w ∷ ws) =
    subst (λ n. Short n (bind (log i w) (λ a. log_all (suc i) ws)) Any) (omega arith)
    (short_bind Any Any 4 (4 * length ws) (log i w) (λ a. log_all (suc i) ws) (log_short i w) (λ a t. log_all_short (suc i) ws))

pub apply_all_short : (ws : List Write) → Short (2 * length ws) (apply_all ws) Any
unfolding apply_all Short
apply_all_short [] = tt
apply_all_short (w ∷ ws) =
    subst (λ n. Short n (bind (apply w) (λ a. apply_all ws)) Any) (omega arith)
    (short_bind Any Any 2 (2 * length ws) (apply w) (λ a. apply_all ws) (write_short w.to w.text) (λ a t. apply_all_short ws))

pub reapply_all_short : (i m : ℕ) → Short (4 * m) (reapply_all i m) Any
unfolding reapply_all Short
reapply_all_short i zero = tt
reapply_all_short i (suc m) =
    subst (λ n. Short n (bind (reapply i) (λ a. reapply_all (suc i) m)) Any) (omega arith)
    (short_bind Any Any 4 (4 * m) (reapply i) (λ a. reapply_all (suc i) m) (reapply_short i) (λ a t. reapply_all_short (suc i) m))

-- at most so many lines are used to make each write
abbrev pub Makes : (List Line → Type 0) → (At → Type 0) → Layout → List (List ℕ) → (ℕ → Line) → List Write → ℕ → (ℕ → Prog Write) → Type 0
Makes S C Y ss D ws cost make =
    (us : List Write) (w : Write) (vs : List Write) (d : Device) (u : ℕ) → ws ≡ us ++ w ∷ vs → Is S (Ready Y D us) d
    → Safe C (make (length us)) (at d ss u) (λ x s. (x ≡ w) × (v : ℕ) × (v ≤ u + cost) × After S (Ready Y D us) ss v x s)

module _ (M : Machine) (Ok : M.Reg → Type 0) where
  -- registers whose stages note m writes, each made by a program, and agree; and registers whose stages do m writes again, as by the entries, and forget
  pub record Logging (m : ℕ) (make : ℕ → Prog Write) (reg : ℕ → M.Reg) (next : M.Reg) : Type 0 where
    pub each : (i : ℕ) → i < m → M.stage (reg i) ≡ bind (make i) (λ w. bind (log i w) (λ a. ret (then (reg (suc i)))))
    pub end : M.stage (reg m) ≡ bind (commit m) (λ a. ret (then next))
    pub ok : (i : ℕ) → i ≤ m → Ok (reg i)

  pub record Redoing (again : ℕ → Prog (Unit {0})) (m : ℕ) (reg : ℕ → M.Reg) (fin : Prog (Next M.Reg)) : Type 0 where
    pub each : (i : ℕ) → i < m → M.stage (reg i) ≡ bind (again i) (λ a. ret (then (reg (suc i))))
    pub end : M.stage (reg m) ≡ bind clear (λ a. fin)
    pub ok : (i : ℕ) → i ≤ m → Ok (reg i)

  abbrev pub Reapplying : ℕ → (ℕ → M.Reg) → Prog (Next M.Reg) → Type 0
  Reapplying m reg fin = Redoing reapply m reg fin

module _ (M : Machine) (Ok : M.Reg → Type 0) (C : At → Type 0) (Q : M.Reg → ℕ → At → Type 0) where
  -- a program that is safe, and then one that goes well
  pub going_bind : {A : Type 0} (p : Prog A) (f : A → Prog (Next M.Reg)) (s : At) → Safe C p s (λ a s₁. Going M Ok C Q (f a) s₁) → Going M Ok C Q (bind p f) s
  unfolding Safe bind
  going_bind (ret a) f s h = h.1
  going_bind (ask x k) f s h = asks {k = λ l. bind (k l) f} h.0 h.1 (going_bind (k (answer x s)) f (after x s) h.2)

  pub go_on : {A : Type 0} (S P : List Line → Type 0) (ss : List (List ℕ)) (v : ℕ) (p : Prog A) (f : A → Prog (Next M.Reg)) (s : At)
      → Safe C p s (After S P ss v) → ((a : A) (d : Device) → Is S P d → Going M Ok C Q (f a) (at d ss v)) → Going M Ok C Q (bind p f) s
  go_on S P ss v p f s h g =
      going_bind p f s (safe_weak C C (After S P ss v) (λ a s₁. Going M Ok C Q (f a) s₁) p s (λ s₁ c. c)
      (λ a s₁ e. subst (λ s₂. Going M Ok C Q (f a) s₂) (sym e.1) (g a e.0 e.2)) h)

  abbrev GoesSo : M.Reg → At → Type 0
  GoesSo r s = Going M Ok C Q (M.stage r) s

  module _ (Y : Layout) (S : List Line → Type 0) (stable : Stable Y S) (ss : List (List ℕ)) (R : List Line → Type 0) (cover : (d : Device) (u : ℕ) → Always R d → C (at d ss u)) where
    always_now : (P : List Line → Type 0) → ((ls : List Line) → P ls → R ls) → (d : Device) (u : ℕ) → Is S P d → C (at d ss u)
    always_now P f d u a = cover d u (λ cs. f (stop d cs) (a.0 cs))

    module _ (D : ℕ → Line) (ws : List Write) (few : length ws ≤ Y.most) (good : Good Y ws) where
      -- 3 and 4, and recovery
      pub redo_goes : (again : ℕ → Prog (Unit {0})) → Redoes Y S C ss D ws again → (committed : (ls : List Line) → Marks Y D ws ls → R ls) (idle : (ls : List Line) → Marks Y D [] ls → R ls)
          (reg : ℕ → M.Reg) (fin : Prog (Next M.Reg)) → Redoing M Ok again (length ws) reg fin
          → (us vs : List Write) (d : Device) (u : ℕ) → ws ≡ us ++ vs → Is S (Committed Y D ws vs) d
          → ((d₁ : Device) → Is S (Marks Y D []) d₁ → Going M Ok C Q fin (at d₁ ss (suc (u + 3 * length vs))))
          → GoesSo (reg (length us)) (at d ss u)
      redo_goes again redoes committed idle reg fin r us [] d u e a k =
          let n : length ws ≡ length us = ap length (e ∙ append-nil us) in
          let z : suc (u + 3 * 0) ≡ suc u = omega arith in
          subst (λ p. Going M Ok C Q p (at d ss u)) (sym (ap (λ i. M.stage (reg i)) (sym n) ∙ r.end))
          (go_on S (Marks Y D []) ss (suc u) clear (λ x. fin) (at d ss u) (clear_safe Y S stable C ss R cover D ws few good committed d u idle a)
          (λ x d₁ a₁. subst (λ v. Going M Ok C Q fin (at d₁ ss v)) z (k d₁ a₁)))
      redo_goes again redoes committed idle reg fin r us (w ∷ vs) d u e a k =
          let n : length ws ≡ length us + suc (length vs) = ap length e ∙ length-append us (w ∷ vs) in
          let m : length (us ++ w ∷ []) ≡ suc (length us) = length-append us (w ∷ []) ∙ omega arith in
          let z : suc (u + 3 * suc (length vs)) ≡ suc (suc (suc (suc u)) + 3 * length vs) = omega arith in
          subst (λ p. Going M Ok C Q p (at d ss u)) (sym (r.each (length us) (omega arith)))
          (go_on S (Committed Y D ws vs) ss (suc (suc (suc u))) (again (length us)) (λ x. ret (then (reg (suc (length us))))) (at d ss u)
          (redoes us w vs d u e a)
          (λ x d₁ a₁. turns (always_now (Committed Y D ws vs) (λ ls h. committed ls h.0) d₁ (suc (suc (suc u))) a₁) (r.ok (suc (length us)) (omega arith))
          (subst (λ i. GoesSo (reg i) (at d₁ ss (suc (suc (suc u))))) m
          (redo_goes again redoes committed idle reg fin r (us ++ w ∷ []) vs d₁ (suc (suc (suc u))) (e ∙ sym (append_assoc us (w ∷ []) vs)) a₁
          (λ d₂ a₂. subst (λ v. Going M Ok C Q fin (at d₂ ss v)) z (k d₂ a₂))))))

      pub reapply_goes : (committed : (ls : List Line) → Marks Y D ws ls → R ls) (idle : (ls : List Line) → Marks Y D [] ls → R ls)
          (reg : ℕ → M.Reg) (fin : Prog (Next M.Reg)) → Reapplying M Ok (length ws) reg fin
          → (us vs : List Write) (d : Device) (u : ℕ) → ws ≡ us ++ vs → Is S (Committed Y D ws vs) d
          → ((d₁ : Device) → Is S (Marks Y D []) d₁ → Going M Ok C Q fin (at d₁ ss (suc (u + 3 * length vs))))
          → GoesSo (reg (length us)) (at d ss u)
      reapply_goes committed = redo_goes reapply (reapply_safe Y S stable C ss R cover D ws few good committed) committed

      -- 1 and 2
      pub log_goes : (idle : (ls : List Line) → Marks Y D [] ls → R ls) (committed : (ls : List Line) → Marks Y (written D ws) ws ls → R ls)
          (cost : ℕ) (make : ℕ → Prog Write) (reg : ℕ → M.Reg) (next : M.Reg) → Makes S C Y ss D ws cost make → Logging M Ok (length ws) make reg next → Ok next
          → (us vs : List Write) (d : Device) (u : ℕ) → ws ≡ us ++ vs → Is S (Ready Y D us) d
          → ((d₁ : Device) (v : ℕ) → v ≤ suc (u + length vs * (cost + 2)) → Is S (Committed Y (written D ws) ws ws) d₁ → GoesSo next (at d₁ ss v))
          → GoesSo (reg (length us)) (at d ss u)
      log_goes idle committed cost make reg next made r o us [] d u e a k =
          let n : length ws ≡ length us = ap length (e ∙ append-nil us) in
          subst (λ p. Going M Ok C Q p (at d ss u)) (sym (ap (λ i. M.stage (reg i)) (sym n) ∙ r.end))
          (go_on S (Committed Y (written D ws) ws ws) ss (suc u) (commit (length ws)) (λ x. ret (then next)) (at d ss u)
          (commit_safe Y S stable C ss R cover D ws d u few idle committed (subst (λ xs. Is S (Ready Y D xs) d) (sym (e ∙ append-nil us)) a))
          (λ x d₁ a₁. turns (always_now (Committed Y (written D ws) ws ws) (λ ls h. committed ls h.0) d₁ (suc u) a₁) o
          (k d₁ (suc u) (omega arith) a₁)))
      log_goes idle committed cost make reg next made r o us (w ∷ vs) d u e a k =
          subst (λ p. Going M Ok C Q p (at d ss u)) (sym (r.each (length us) (omega (arith, n))))
          (going_bind (make (length us)) (λ x. bind (log (length us) x) (λ b. ret (then (reg (suc (length us)))))) (at d ss u)
          (safe_weak C C (λ x s. (x ≡ w) × (v : ℕ) × (v ≤ u + cost) × After S (Ready Y D us) ss v x s) _ (make (length us)) (at d ss u) (λ s c. c)
          (λ x s h. subst (λ y. Going M Ok C Q (bind (log (length us) y) (λ b. ret (then (reg (suc (length us)))))) s) (sym h.0)
          (subst (λ s₁. Going M Ok C Q (bind (log (length us) w) (λ b. ret (then (reg (suc (length us)))))) s₁) (sym h.3.1)
          (go_on S (Ready Y D (us ++ w ∷ [])) ss (suc (suc h.1)) (log (length us) w) (λ b. ret (then (reg (suc (length us))))) (at h.3.0 ss h.1)
          (log_safe Y S stable C ss R cover D idle us w h.3.0 h.1 (omega (arith, n)) (let i = Y.inside in omega (arith, g.1)) g.2 h.3.2)
          (λ b d₁ a₁. turns (always_now (Ready Y D (us ++ w ∷ [])) (λ ls x. idle ls x.0) d₁ (suc (suc h.1)) a₁) (r.ok (suc (length us)) (omega (arith, n)))
          (again d₁ (suc (suc h.1)) (log_goes idle committed cost make reg next made r o (us ++ w ∷ []) vs d₁ (suc (suc h.1)) (e ∙ sym (append_assoc us (w ∷ []) vs)) a₁
          (λ d₂ y le a₂. k d₂ y (more h.1 y h.2 le) a₂)))))))
          (made us w vs d u e a)))
        where
          n : length ws ≡ length us + suc (length vs)
          n = ap length e ∙ length-append us (w ∷ vs)

          g : (first Y ≤ w.to) × (w.to < Y.last) × (a_line w.text ≡ true)
          g = good_at Y us w vs (subst (Good Y) e good)

          more : (v y : ℕ) → v ≤ u + cost → y ≤ suc (suc (suc v) + length vs * (cost + 2)) → y ≤ suc (u + suc (length vs) * (cost + 2))
          more v y a b = let p = suc-mul (length vs) (cost + 2) in omega arith

          again : (d₁ : Device) (v : ℕ) → GoesSo (reg (length (us ++ w ∷ []))) (at d₁ ss v) → GoesSo (reg (suc (length us))) (at d₁ ss v)
          again d₁ v h = subst (λ i. GoesSo (reg i) (at d₁ ss v)) (length-append us (w ∷ []) ∙ omega arith) h

  -- A BATCH over stages, and RECOVERY over stages
  module _ (Y : Layout) (S : List Line → Type 0) (stable : Stable Y S) (ss : List (List ℕ)) (D : ℕ → Line) where
    -- whatever a stop may find, the next of the writes is done again
    abbrev pub RedoesAll : (ℕ → Prog (Unit {0})) → Type 1
    RedoesAll again =
        (R : List Line → Type 0) (cover : (d : Device) (u : ℕ) → Always R d → C (at d ss u)) (D : ℕ → Line) (ws : List Write)
        → length ws ≤ Y.most → Good Y ws → ((ls : List Line) → Marks Y D ws ls → R ls) → Redoes Y S C ss D ws again

    pub batch_goes_by : (again : ℕ → Prog (Unit {0})) → RedoesAll again
        → (ws : List Write) → length ws ≤ Y.most → Good Y ws → ((d : Device) (u : ℕ) → Always (Either Y D ws) d → C (at d ss u))
        → (cost : ℕ) (make : ℕ → Prog Write) (logging reapplying : ℕ → M.Reg) (fin : Prog (Next M.Reg))
        → Makes S C Y ss D ws cost make → Logging M Ok (length ws) make logging (reapplying 0) → Redoing M Ok again (length ws) reapplying fin
        → (d : Device) (u : ℕ) → Holds Y D d → S (seen d)
        → ((d₁ : Device) (v : ℕ) → v ≤ u + (length ws * (cost + 2) + 3 * length ws + 2) → Holds Y (written D ws) d₁ → S (seen d₁) → Going M Ok C Q fin (at d₁ ss v))
        → GoesSo (logging 0) (at d ss u)
    unfolding Logged
    batch_goes_by again redoes ws few good cover cost make logging reapplying fin made rn rr d u h z k =
        log_goes Y S stable ss (Either Y D ws) cover D ws few good before both cost make logging (reapplying 0) made rn (rr.ok 0 (omega arith)) [] ws d u refl ((λ cs. (h cs, tt)), z)
        (λ d₁ v le a₁. redo_goes Y S stable ss (Either Y D ws) cover (written D ws) ws few good again (redoes (Either Y D ws) cover (written D ws) ws few good both) both (λ ls m. inr (idle_survives Y (written D ws) ls m)) reapplying fin rr [] ws d₁ v refl a₁
        (λ d₂ a₂. k d₂ (suc (v + 3 * length ws)) (omega arith) a₂.0 a₂.1))
      where
        before : (ls : List Line) → Marks Y D [] ls → Either Y D ws ls
        before ls m = inl (idle_survives Y D ls m)

        both : (ls : List Line) → Marks Y (written D ws) ws ls → Either Y D ws ls
        both ls m = inr (record { committed = ws; few = few; good = good; marks = m })

    pub batch_goes : (ws : List Write) → length ws ≤ Y.most → Good Y ws → ((d : Device) (u : ℕ) → Always (Either Y D ws) d → C (at d ss u))
        → (cost : ℕ) (make : ℕ → Prog Write) (logging reapplying : ℕ → M.Reg) (fin : Prog (Next M.Reg))
        → Makes S C Y ss D ws cost make → Logging M Ok (length ws) make logging (reapplying 0) → Reapplying M Ok (length ws) reapplying fin
        → (d : Device) (u : ℕ) → Holds Y D d → S (seen d)
        → ((d₁ : Device) (v : ℕ) → v ≤ u + (length ws * (cost + 2) + 3 * length ws + 2) → Holds Y (written D ws) d₁ → S (seen d₁) → Going M Ok C Q fin (at d₁ ss v))
        → GoesSo (logging 0) (at d ss u)
    batch_goes = batch_goes_by reapply (reapply_safe Y S stable C ss)

    pub recover_goes_by : (count : Line → ℕ) → ((l : Line) (m : ℕ) → word l ≡ m → m ≤ Y.most → count l ≡ m) → (again : ℕ → Prog (Unit {0})) → RedoesAll again
        → ((d : Device) (u : ℕ) → Always (Survives Y D) d → C (at d ss u))
        → (look : ℕ → Prog (Next M.Reg)) (reapplying : ℕ → ℕ → M.Reg) (fin : Prog (Next M.Reg))
        → look 0 ≡ fin → ((m : ℕ) → suc m ≤ Y.most → (look (suc m) ≡ ret (then (reapplying (suc m) 0))) × Redoing M Ok again (suc m) (reapplying (suc m)) fin)
        → (d : Device) (u : ℕ) → d.cache ≡ [] → Survives Y D d.lines → S (seen d)
        → ((d₁ : Device) (v : ℕ) → v ≤ u + (3 * Y.most + 2) → Holds Y D d₁ → S (seen d₁) → Going M Ok C Q fin (at d₁ ss v))
        → Going M Ok C Q (ask (read 0) (λ l. look (count l))) (at d ss u)
    recover_goes_by count counts again redoes cover look reapplying fin none some d u quiet s z k =
        let room = Y.room in let inside = Y.inside in
        subst (λ p. Going M Ok C Q p (at d ss u)) refl
        (asks {k = λ l. look (count l)} (cover d u (λ cs. commits s.committed s.few s.good (stop d cs) (here cs))) tt
        (subst (λ l. Going M Ok C Q (look (count l)) (at d ss (suc u))) (sym (tidy_is (line_at (seen d) 0) (seen_marks.sound.lined 0 (omega arith))))
        (subst (λ m. Going M Ok C Q (look m) (at d ss (suc u))) (sym (counts (line_at (seen d) 0) (length s.committed) seen_marks.head s.few)) (go s.committed s.few s.good here))))
      where
        here : Always (Marks Y D s.committed) d
        here = always_quiet (Marks Y D s.committed) d quiet s.marks

        seen_marks : Marks Y D s.committed (seen d)
        seen_marks = always_seen (Marks Y D s.committed) d here

        commits : (ws : List Write) → length ws ≤ Y.most → Good Y ws → (ls : List Line) → Marks Y D ws ls → Survives Y D ls
        commits ws few good ls m = record { committed = ws; few = few; good = good; marks = m }

        go : (ws : List Write) → length ws ≤ Y.most → Good Y ws → Always (Marks Y D ws) d → Going M Ok C Q (look (length ws)) (at d ss (suc u))
        go [] few good a = subst (λ p. Going M Ok C Q p (at d ss (suc u))) (sym none) (k d (suc u) (omega arith) a z)
        go (w ∷ ws) few good a =
            let r = some (length ws) few in
            subst (λ p. Going M Ok C Q p (at d ss (suc u))) (sym r.0)
            (turns (cover d (suc u) (λ cs. commits (w ∷ ws) few good (stop d cs) (a cs))) (r.1.ok 0 (omega arith))
            (redo_goes Y S stable ss (Survives Y D) cover D (w ∷ ws) few good again (redoes (Survives Y D) cover D (w ∷ ws) few good (commits (w ∷ ws) few good)) (commits (w ∷ ws) few good) (idle_survives Y D) (reapplying (suc (length ws))) fin r.1 [] (w ∷ ws) d (suc u) refl
            ((λ cs. (a cs, (a cs).says)), z) (λ d₁ a₁. k d₁ (suc (suc u + 3 * length (w ∷ ws))) (omega arith) a₁.0 a₁.1)))

    pub recover_goes : ((d : Device) (u : ℕ) → Always (Survives Y D) d → C (at d ss u))
        → (look : ℕ → Prog (Next M.Reg)) (reapplying : ℕ → ℕ → M.Reg) (fin : Prog (Next M.Reg))
        → look 0 ≡ fin → ((m : ℕ) → suc m ≤ Y.most → (look (suc m) ≡ ret (then (reapplying (suc m) 0))) × Reapplying M Ok (suc m) (reapplying (suc m)) fin)
        → (d : Device) (u : ℕ) → d.cache ≡ [] → Survives Y D d.lines → S (seen d)
        → ((d₁ : Device) (v : ℕ) → v ≤ u + (3 * Y.most + 2) → Holds Y D d₁ → S (seen d₁) → Going M Ok C Q fin (at d₁ ss v))
        → Going M Ok C Q (ask (read 0) (λ l. look (word l))) (at d ss u)
    recover_goes = recover_goes_by word (λ l m e h. e) reapply (reapply_safe Y S stable C ss)
