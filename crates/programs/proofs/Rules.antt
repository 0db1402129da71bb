-- How to show that programs and stages go well: weakening and bind, a rule for each act, a stage by what is Safe, and loops of stages by a measure.
use Rattle.std.proofs.Common.{◌≡◌, ℕ, zero, suc, ◌<◌, true, ◌⊎◌, List, [], ◌∷◌, ◌++◌, length, sym, refl, subst, inl, inr, arith}
use Rattle.std.proofs.lemmas.Bool.{lt-ltb}
use Rattle.plain.specs.Device.{Line, a_line, read_line, storing, settled}
use Rattle.plain.specs.Run.{read, store, settle, shows}
use Rattle.programs.specs.Prog.{Prog, ret, ask, bind}
use Rattle.programs.specs.Machine.{Machine, Next, then, over, tidy, blank, At, at, answer, after, Safe, Going, asks, turns, halts}

pub safe_weak : {A : Type 0} (C D : At → Type 0) (Q P : A → At → Type 0) (p : Prog A) (s : At)
    → ((s : At) → C s → D s) → ((a : A) (s : At) → Q a s → P a s) → Safe C p s Q → Safe D p s P
unfolding Safe
safe_weak C D Q P (ret a) s f g h = (f s h.0, g a s h.1)
safe_weak C D Q P (ask x k) s f g h = (f s h.0, h.1, safe_weak C D Q P (k (answer x s)) (after x s) f g h.2)

pub safe_bind : {A B : Type 0} (C : At → Type 0) (Q : B → At → Type 0) (p : Prog A) (f : A → Prog B) (s : At)
    → Safe C p s (λ a s₁. Safe C (f a) s₁ Q) → Safe C (bind p f) s Q
unfolding Safe bind
safe_bind C Q (ret a) f s h = h.1
safe_bind C Q (ask x k) f s h = (h.0, h.1, safe_bind C Q (k (answer x s)) f (after x s) h.2)

pub tidy_is : (l : Line) → a_line l ≡ true → tidy l ≡ l
unfolding tidy
tidy_is l e = rw e refl

-- the four acts, as steps of a proof
module _ {A : Type 0} (C : At → Type 0) (Q : A → At → Type 0) (s : At) where
  pub safe_ret : (a : A) → C s → Q a s → Safe C (ret a) s Q
  unfolding Safe
  safe_ret a c q = (c, q)

  pub safe_read : (n : ℕ) (k : Line → Prog A) → C s → a_line (read_line s.device n) ≡ true
      → Safe C (k (read_line s.device n)) (at s.device s.showed (suc s.used)) Q → Safe C (ask (read n) k) s Q
  unfolding Safe
  safe_read n k c e h =
      (c, tt, subst (λ l. Safe C (k l) (at s.device s.showed (suc s.used)) Q) (sym (tidy_is (read_line s.device n) e)) h)

  pub safe_store : (n : ℕ) (p : Line) (k : Line → Prog A) → C s → n < length s.device.lines → a_line p ≡ true
      → Safe C (k blank) (at (storing s.device n p) s.showed (suc s.used)) Q → Safe C (ask (store n p) k) s Q
  unfolding Safe
  safe_store n p k c lt e h = (c, rw (lt-ltb n (length s.device.lines) lt) e, h)

  pub safe_settle : (n : ℕ) (k : Line → Prog A) → C s
      → Safe C (k blank) (at (settled s.device n) s.showed s.used) Q → Safe C (ask (settle n) k) s Q
  unfolding Safe
  safe_settle n k c h = (c, tt, h)

  pub safe_shows : (row : List ℕ) (k : Line → Prog A) → C s
      → Safe C (k blank) (at s.device (s.showed ++ row ∷ []) s.used) Q → Safe C (ask (shows row) k) s Q
  unfolding Safe
  safe_shows row k c h = (c, tt, h)

module _ (M : Machine) (Ok : M.Reg → Type 0) (C : At → Type 0) (Q : M.Reg → ℕ → At → Type 0) where
  -- how a stage may come out, if the next is to go G
  unfoldable pub Then : (M.Reg → At → Type 0) → Next M.Reg → At → Type 0
  Then G (then r) s = Ok r × G r s
  Then G (over r k) s = Ok r × (k < 1000) × Q r k s

  abbrev pub Goes : M.Reg → At → Type 0
  Goes r s = Going M Ok C Q (M.stage r) s

  pub going : (p : Prog (Next M.Reg)) (s : At) → Safe C p s (Then Goes) → Going M Ok C Q p s
  unfolding Safe Then
  going (ret (then r)) s h = turns h.0 h.1.0 h.1.1
  going (ret (over r k)) s h = halts h.0 h.1.0 h.1.1 h.1.2
  going (ask x k) s h = asks {k = k} h.0 h.1 (going (k (answer x s)) (after x s) h.2)

  pub then_weak : (F G : M.Reg → At → Type 0) → ((r : M.Reg) (s : At) → F r s → G r s) → (a : Next M.Reg) (s : At) → Then F a s → Then G a s
  unfolding Then
  then_weak F G f (then r) s h = (h.0, f r s h.1)
  then_weak F G f (over r k) s h = h

  -- a loop: I holds before each round, with a measure that falls until what comes goes well anyhow
  module _ (I : ℕ → M.Reg → At → Type 0) where
    abbrev pub Round : ℕ → M.Reg → At → Type 0
    Round n r s = Goes r s ⊎ ((m : ℕ) × (m < n) × I m r s)

    upto : ((n : ℕ) (r : M.Reg) (s : At) → I n r s → Safe C (M.stage r) s (Then (Round n)))
        → (b n : ℕ) (r : M.Reg) (s : At) → n < b → I n r s → Goes r s
    upto h zero n r s lt i = absurd (omega arith)
    upto h (suc b) n r s lt i =
        going (M.stage r) s (safe_weak C C (Then (Round n)) (Then Goes) (M.stage r) s (λ s₁ c. c) (then_weak (Round n) Goes (round (upto h b))) (h n r s i))
      where
        round : ((n : ℕ) (r : M.Reg) (s : At) → n < b → I n r s → Goes r s) → (r₁ : M.Reg) (s₁ : At) → Round n r₁ s₁ → Goes r₁ s₁
        round again r₁ s₁ (inl g) = g
        round again r₁ s₁ (inr w) = again w.0 r₁ s₁ (omega (arith, w.1, lt)) w.2

    pub loop : ((n : ℕ) (r : M.Reg) (s : At) → I n r s → Safe C (M.stage r) s (Then (Round n))) → (n : ℕ) (r : M.Reg) (s : At) → I n r s → Goes r s
    loop h n r s i = upto h (suc n) n r s (omega arith) i

pub going_weak : (M : Machine) (Ok : M.Reg → Type 0) (C D : At → Type 0) (Q P : M.Reg → ℕ → At → Type 0) {p : Prog (Next M.Reg)} {s : At}
    → ((s : At) → C s → D s) → ((r : M.Reg) (k : ℕ) (s : At) → Q r k s → P r k s) → Going M Ok C Q p s → Going M Ok D P p s
going_weak M Ok C D Q P f g (asks {x = x} {k = k} {s = s} c a h) = asks {k = k} (f s c) a (going_weak M Ok C D Q P f g h)
going_weak M Ok C D Q P f g (turns {r = r} {s = s} c o h) = turns (f s c) o (going_weak M Ok C D Q P f g h)
going_weak M Ok C D Q P f g (halts {r = r} {k = k} {s = s} c o b q) = halts (f s c) o b (g r k s q)
