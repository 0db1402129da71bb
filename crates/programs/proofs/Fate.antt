-- What becomes of a machine told by programs: if they go well, each run of it ends well, and a stop finds it well.
use Rattle.std.proofs.Common.{◌≡◌, ℕ, zero, suc, ◌<◌, Bool, true, false, ltb, leb, ◌⊎◌, List, [], ◌∷◌, ◌++◌, length, sym, refl, ap, ◌∙◌, subst, inl, inr, append_assoc, append-nil, suc-le-suc, zero-le}
use Rattle.std.proofs.lemmas.Bool.{le-leb, lt-ltb}
use Rattle.plain.specs.Term.{pick}
use Rattle.plain.specs.Device.{Line, read_line, a_line, so_many_of}
use Rattle.plain.specs.Run.{Act, read, store, settle, shows, done, refused, Event, on, said, Step, World, Ran, on_device, ran, refusal_end_lem, one_act, runs, woken, ran_as}
use Rattle.programs.specs.Prog.{Prog, ret, ask, Lined, Opens, feed}
use Rattle.programs.specs.Fates as fates
use Rattle.programs.proofs.Programs.{feed_none, feed_next, lined_more, short_feed}
use Rattle.programs.specs.Machine.{Machine, Next, then, tidy, blank, ends, doing, At, answer, after, reply, Fits, Begun, Did, Laws, Going, asks, turns, halts}

acted : (go : World → Event → List (List ℕ) → ℕ → Ran) (m₀ m : List ℕ) (s : At) (x : Act) → Fits x s
    → one_act go (on_device m₀ s.device) s.showed s.used m x
    ≡ go (on_device m (after x s).device) (reply x s) (after x s).showed (after x s).used
unfolding one_act
acted go m₀ m s (read k) f = refl
acted go m₀ m s (store k p) f = rw f refl
acted go m₀ m s (settle k) f = refl
acted go m₀ m s (shows row) f = refl
acted go m₀ m s done f = absurd f
acted go m₀ m s (refused k) f = absurd f

closed : (go : World → Event → List (List ℕ) → ℕ → Ran) (m₀ m : List ℕ) (s : At) (k : ℕ) → k < 1000
    → one_act go (on_device m₀ s.device) s.showed s.used m (ends k) ≡ ran (on_device m s.device) s.showed s.used k
unfolding one_act
closed go m₀ m s zero h = refl
closed go m₀ m s (suc k) h = ap (λ e. ran (on_device m s.device) s.showed s.used e) e
  where
    lo : leb 1 (suc k) ≡ true
    lo = le-leb 1 (suc k) (suc-le-suc zero-le)

    hi : ltb (suc k) 1000 ≡ true
    hi = lt-ltb (suc k) 1000 h

    e : refusal_end_lem (suc k) ≡ suc k
    e = rw (lo, hi) refl

more_shown : (x : Act) (s : At) → (more : List (List ℕ)) × ((after x s).showed ≡ s.showed ++ more)
more_shown (read k) s = ([], sym (append-nil s.showed))
more_shown (store k p) s = ([], sym (append-nil s.showed))
more_shown (settle k) s = ([], sym (append-nil s.showed))
more_shown (shows row) s = (row ∷ [], refl)
more_shown done s = ([], sym (append-nil s.showed))
more_shown (refused k) s = ([], sym (append-nil s.showed))

pub blank_line : a_line blank ≡ true
unfolding blank so_many_of
blank_line = refl

pub tidy_line : (l : Line) → a_line (tidy l) ≡ true
unfolding tidy
tidy_line l = go (a_line l) refl
  where
    go : (b : Bool) → a_line l ≡ b → a_line (pick b l blank) ≡ true
    go true e = e
    go false e = blank_line

pub answer_line : (x : Act) (s : At) → a_line (answer x s) ≡ true
answer_line (read k) s = tidy_line (read_line s.device k)
answer_line (store k p) s = blank_line
answer_line (settle k) s = blank_line
answer_line (shows row) s = blank_line
answer_line done s = blank_line
answer_line (refused k) s = blank_line

module _ (M : Machine) where
  run_of : ℕ → List ℕ → Event → At → Ran
  run_of n m ev s = runs n M.engine (on_device m s.device) ev s.showed s.used

  run_none : (m : List ℕ) (ev : Event) (s : At) → run_of 0 m ev s ≡ ran (on_device m s.device) s.showed s.used 1000
  unfolding run_of runs
  run_none m ev s = refl

  run_ask : (n : ℕ) (m m₁ : List ℕ) (ev : Event) (s : At) (x : Act) → M.engine.step m ev ≡ doing m₁ x → Fits x s
      → run_of (suc n) m ev s ≡ run_of n m₁ (reply x s) (after x s)
  unfolding run_of runs
  run_ask n m m₁ ev s x e f =
      ap (λ (z : Step). one_act (λ w ev₁ ss u. runs n M.engine w ev₁ ss u) (on_device m s.device) s.showed s.used z.memory z.act) e
      ∙ acted (λ w ev₁ ss u. runs n M.engine w ev₁ ss u) m m₁ s x f

  run_end : (n : ℕ) (m m₁ : List ℕ) (ev : Event) (s : At) (k : ℕ) → M.engine.step m ev ≡ doing m₁ (ends k) → k < 1000
      → run_of (suc n) m ev s ≡ ran (on_device m₁ s.device) s.showed s.used k
  unfolding run_of runs
  run_end n m m₁ ev s k e h =
      ap (λ (z : Step). one_act (λ w ev₁ ss u. runs n M.engine w ev₁ ss u) (on_device m s.device) s.showed s.used z.memory z.act) e
      ∙ closed (λ w ev₁ ss u. runs n M.engine w ev₁ ss u) m m₁ s k h

module _ (M : Machine) (Ok : M.Reg → Type 0) (L : Laws M Ok) (C : At → Type 0) (Q : M.Reg → ℕ → At → Type 0) where
  crash : {p : Prog (Next M.Reg)} {s : At} → Going M Ok C Q p s → C s
  crash (asks c f g) = c
  crash (turns c o g) = c
  crash (halts c o h q) = c

  -- a complete run ends so, having shown more, maybe, than what was shown here
  abbrev Comes : At → Type 0
  Comes s = fates.Comes M Ok C Q s

  comes : {p : Prog (Next M.Reg)} {s : At} → Going M Ok C Q p s → Comes s
  comes (asks {x = x} {s = s} c f g) = longer (comes g)
    where
      longer : Comes (after x s) → Comes s
      longer h = (
        h.0,
        h.1,
        h.2,
        (more_shown x s).0 ++ h.3,
        h.4 ∙ ap (λ a. a ++ h.3) (more_shown x s).1 ∙ append_assoc s.showed (more_shown x s).0 h.3,
        h.5,
        h.6,
      )
  comes (turns c o g) = comes g
  comes (halts {r = r} {k = k} {s = s} c o h q) = (r, k, s, [], sym (append-nil s.showed), h, q)

  -- it has ended, with Q; the memory holds the registers
  abbrev Ended : Ran → Type 0
  Ended x = fates.Ended M Ok C Q x

  -- it is still running, and C holds
  abbrev Running : Ran → Type 0
  Running x = fates.Running M Ok C Q x

  -- what the engine does when it is told this is what's next in the program
  Ready : Prog (Next M.Reg) → M.Reg → List Line → Type 0
  Ready p r t = Opens p → Ok r × Lined t × (feed (M.stage r) t ≡ p)

  ready_next : (x : Act) (k : Line → Prog (Next M.Reg)) (s : At) (r : M.Reg) (t : List Line) → Ready (ask x k) r t
      → Ready (k (answer x s)) r (t ++ answer x s ∷ [])
  unfolding Ready Opens
  ready_next x k s r t y o =
      ((y tt).0, lined_more t (answer x s) (y tt).1 (answer_line x s), feed_next (M.stage r) t (answer x s) x k (y tt).2)

  ready_first : (r : M.Reg) → Ok r → Ready (M.stage r) r []
  unfolding Ready Lined
  ready_first r o e = (o, tt, feed_none (M.stage r))

  did_next : (x : Act) (k : Line → Prog (Next M.Reg)) (s : At) (m : List ℕ) (r : M.Reg) (t : List Line) → M.Holds m r t → Ready (ask x k) r t
      → Did M Ok r (t ++ answer x s ∷ []) (k (answer x s)) (M.engine.step m (reply x s))
  unfolding Ready Opens
  did_next x k s m r t h y =
      let b : length t < L.cap = short_feed (λ a. Unit {0}) L.cap (M.stage r) t x k (L.short r (y tt).0) (y tt).1 (y tt).2
      in L.answers m r t x k s h (y tt).0 (y tt).1 b (y tt).2

  did_begun : (r : M.Reg) (p : Prog (Next M.Reg)) (z : Step) → Begun M Ok r p z → Did M Ok r [] p z
  did_begun r (ret a) z h = absurd h
  did_begun r (ask x k) z h = h

  none_yet : {p : Prog (Next M.Reg)} {s : At} (m : List ℕ) (ev : Event) → Going M Ok C Q p s → Running (run_of M 0 m ev s)
  none_yet {p} {s} m ev g = (m, s, run_none M m ev s, crash g, comes g)

  fate : {p : Prog (Next M.Reg)} {s : At} → Going M Ok C Q p s → (n : ℕ) (m : List ℕ) (ev : Event) (r : M.Reg) (t : List Line)
      → Ready p r t → Did M Ok r t p (M.engine.step m ev) → Ended (run_of M n m ev s) ⊎ Running (run_of M n m ev s)
  fate (asks {x = x} {k = k} {s = s} c f g) zero m ev r t y d = inr (none_yet m ev (asks {k = k} c f g))
  fate (asks {x = x} {k = k} {s = s} c f g) (suc n) m ev r t y d =
      subst (λ z. Ended z ⊎ Running z) (sym (run_ask M n m d.0 ev s x d.2 f))
      (fate g n d.0 (reply x s) r (t ++ answer x s ∷ []) (ready_next x k s r t y) (did_next x k s d.0 r t d.1 y))
  fate (turns {r = r₁} {s = s} c o g) n m ev r t y d = fate g n m ev r₁ [] (ready_first r₁ o) (did_begun r₁ (M.stage r₁) (M.engine.step m ev) (d o))
  fate (halts {r = r₁} {k = k} {s = s} c o b q) zero m ev r t y d = inr (none_yet m ev (halts c o b q))
  fate (halts {r = r₁} {k = k} {s = s} c o b q) (suc n) m ev r t y d =
      let e = d o in inl (e.0, r₁, k, s, run_end M n m e.0 ev s k e.2 b, e.1, o, b, q, c)

  last : {p : Prog (Next M.Reg)} {s : At} → Going M Ok C Q p s → (m : List ℕ) (ev : Event) (r : M.Reg) (t : List Line)
      → Ready p r t → Did M Ok r t p (M.engine.step m ev) → (n : ℕ) × Ended (run_of M n m ev s)
  last (asks {x = x} {k = k} {s = s} c f g) m ev r t y d =
      let w : (n : ℕ) × Ended (run_of M n d.0 (reply x s) (after x s)) =
      last g d.0 (reply x s) r (t ++ answer x s ∷ []) (ready_next x k s r t y) (did_next x k s d.0 r t d.1 y)
      in (suc w.0, subst (λ z. Ended z) (sym (run_ask M w.0 m d.0 ev s x d.2 f)) w.1)
  last (turns {r = r₁} {s = s} c o g) m ev r t y d = last g m ev r₁ [] (ready_first r₁ o) (did_begun r₁ (M.stage r₁) (M.engine.step m ev) (d o))
  last (halts {r = r₁} {k = k} {s = s} c o b q) m ev r t y d =
      let e = d o in (1, (e.0, r₁, k, s, run_end M 0 m e.0 ev s k e.2 b, e.1, o, b, q, c))

  ready_not : (a : Next M.Reg) (r : M.Reg) → Ready (ret a) r []
  unfolding Ready Opens
  ready_not a r o = absurd o

  -- a command that is said, and power that comes
  abbrev Hears : World → M.Reg → List ℕ → Type 0
  Hears v r text = fates.Hears M Ok C Q v r text

  pub said_whole : (v : World) (r : M.Reg) (text : List ℕ) → Hears v r text → (n : ℕ) × Ended (ran_as M.engine n v text)
  unfolding run_of
  said_whole v r text h = last h.1 v.memory (said text) r [] (ready_not (M.hear r text) r) (L.says v.memory r text h.0)

  pub said_stop : (v : World) (r : M.Reg) (text : List ℕ) → Hears v r text → (n : ℕ) → Ended (ran_as M.engine n v text) ⊎ Running (ran_as M.engine n v text)
  unfolding run_of
  said_stop v r text h n = fate h.1 n v.memory (said text) r [] (ready_not (M.hear r text) r) (L.says v.memory r text h.0)

  abbrev Wakes : World → Type 0
  Wakes v = fates.Wakes M Ok C Q v

  pub on_whole : (v : World) → Wakes v → (n : ℕ) × Ended (woken M.engine n v)
  unfolding run_of
  on_whole v g = let b = M.boot (length v.device.lines) in
      last g M.engine.start (on (length v.device.lines)) b [] (ready_not (then b) b) (L.wakes (length v.device.lines))

  pub on_stop : (v : World) → Wakes v → (n : ℕ) → Ended (woken M.engine n v) ⊎ Running (woken M.engine n v)
  unfolding run_of
  on_stop v g n = let b = M.boot (length v.device.lines) in
      fate g n M.engine.start (on (length v.device.lines)) b [] (ready_not (then b) b) (L.wakes (length v.device.lines))

pub ends_so : (b : fates.Derivation) → fates.EndsSo b
unfolding fates.EndsSo
ends_so b = (said_whole b.M b.Ok b.laws b.C b.Q, on_whole b.M b.Ok b.laws b.C b.Q)

pub stops_so : (b : fates.Derivation) → fates.StopsSo b
unfolding fates.StopsSo
stops_so b = (said_stop b.M b.Ok b.laws b.C b.Q, on_stop b.M b.Ok b.laws b.C b.Q)
