-- Laws of programs: replay and bind, what is left of a program after a tape, and how long a program can be.
use Rattle.std.proofs.Common.{◌≡◌, ℕ, zero, suc, ◌+◌, ◌<◌, ◌≤◌, true, List, [], ◌∷◌, ◌++◌, length, sym, refl, ap, ◌∙◌, subst, suc-add, arith}
use Rattle.plain.specs.Device.{Line, a_line}
use Rattle.plain.specs.Run.{Act}
use Rattle.programs.specs.Prog.{Prog, ret, ask, bind, replay, then_out, feed, Short, Lined}

pub replay_bind : {A B : Type 0} (p : Prog A) (f : A → Prog B) (t : List Line) → replay (bind p f) t ≡ then_out (replay p t) f
unfolding replay bind then_out
replay_bind (ret a) f t = refl
replay_bind (ask x k) f [] = refl
replay_bind (ask x k) f (l ∷ t) = replay_bind (k l) f t

pub feed_none : {A : Type 0} (p : Prog A) → feed p [] ≡ p
unfolding feed
feed_none (ret a) = refl
feed_none (ask x k) = refl

pub feed_more : {A : Type 0} (p : Prog A) (t : List Line) (l : Line) → feed p (t ++ l ∷ []) ≡ feed (feed p t) (l ∷ [])
unfolding feed
feed_more (ret a) t l = refl
feed_more (ask x k) [] l = refl
feed_more (ask x k) (h ∷ t) l = feed_more (k h) t l

pub feed_next : {A : Type 0} (p : Prog A) (t : List Line) (l : Line) (x : Act) (k : Line → Prog A) → feed p t ≡ ask x k → feed p (t ++ l ∷ []) ≡ k l
unfolding feed
feed_next p t l x k e = feed_more p t l ∙ ap (λ q. feed q (l ∷ [])) e ∙ feed_none (k l)

pub ret_not_ask : {A : Type 0} {a : A} {x : Act} {k : Line → Prog A} → ret a ≡ ask x k → ⊥
ret_not_ask {A} e = subst (λ q. OpensOr q) e tt
  where
    OpensOr : Prog A → Type 0
    OpensOr (ret a) = Unit {0}
    OpensOr (ask x k) = ⊥

pub lined_more : (t : List Line) (l : Line) → Lined t → a_line l ≡ true → Lined (t ++ l ∷ [])
unfolding Lined
lined_more [] l ls e = (e, tt)
lined_more (h ∷ t) l ls e = (ls.0, lined_more t l ls.1 e)

pub short_feed : {A : Type 0} (P : A → Type 0) (n : ℕ) (p : Prog A) (t : List Line) (x : Act) (k : Line → Prog A)
    → Short n p P → Lined t → feed p t ≡ ask x k → length t < n
unfolding Short Lined feed
short_feed P n (ret a) t x k h ls e = absurd (ret_not_ask e)
short_feed P zero (ask y j) t x k h ls e = absurd h
short_feed P (suc n) (ask y j) [] x k h ls e = omega arith
short_feed P (suc n) (ask y j) (l ∷ t) x k h ls e =
    let b : length t < n = short_feed P n (j l) t x k (h l ls.0) ls.1 e in omega arith

pub short_more : {A : Type 0} (P Q : A → Type 0) (n m : ℕ) (p : Prog A) → Short n p P → n ≤ m → ((a : A) → P a → Q a) → Short m p Q
unfolding Short
short_more P Q n m (ret a) h le g = g a h
short_more P Q zero m (ask x k) h le g = absurd h
short_more P Q (suc n) zero (ask x k) h le g = absurd (omega arith)
short_more P Q (suc n) (suc m) (ask x k) h le g = λ l e. short_more P Q n m (k l) (h l e) (omega arith) g

pub short_bind : {A B : Type 0} (P : A → Type 0) (Q : B → Type 0) (m n : ℕ) (p : Prog A) (f : A → Prog B)
    → Short m p P → ((a : A) → P a → Short n (f a) Q) → Short (m + n) (bind p f) Q
unfolding Short bind
short_bind P Q m n (ret a) f h g = short_more Q Q n (m + n) (f a) (g a h) (omega arith) (λ b q. q)
short_bind P Q zero n (ask x k) f h g = absurd h
short_bind P Q (suc m) n (ask x k) f h g =
    let q : Short (suc (m + n)) (bind (ask x k) f) Q = λ l e. short_bind P Q m n (k l) f (h l e) g
    in subst (λ i. Short i (bind (ask x k) f) Q) (sym (suc-add m n)) q
