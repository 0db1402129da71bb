-- From what a step tells to what plain's run does: the two agree on every act.
use Rattle.std.proofs.Common.{◌≡◌, ℕ, suc, ◌+◌, ◌≤◌, Bool, true, false, ◌&&◌, eqb, ltb, List, [], ◌∷◌, ◌++◌, length, take, drop, sym, refl, ap, ◌∙◌, subst, ap₂, append-nil, add-zero, add-one, arith}
use Rattle.std.proofs.lemmas.List.{take_at}
use Rattle.std.proofs.lemmas.Bool.{and_parts, eqb-true}
use Rattle.plain.specs.Term.{pick}
use Rattle.plain.specs.Device.{Device, a_line, storing}
use Rattle.plain.specs.Run.{World, Engine, Event, next, Act, read, store, settle, shows, done, refused, in_memory, on_device, storable, runs, one_act, ran}
use Rattle.events.specs.declared.event.Event as told
use Rattle.events.specs.declared.event.Event.TheVariants.{On, Said, Line, Next}
use Rattle.events.specs.declared.told.Told.{Told}
use Rattle.events.specs.Events.{kind_of}
use Rattle.events.specs.Entry.{ActTold, StepOf, event_of}
use Rattle.events.proofs.Tells.{fits_so}
use Rattle.sheet.specs.Entry.{StepSays, own, step_fits}
use Rattle.sheet.specs.Stores.{StoresLines}
use Rattle.sheet.proofs.Steps.{length_start, stores_lines}
use Rattle.device.proofs.Seen.{lent_back}
use Rattle.host.specs.Acts.{going, ended, acted, acted_by, carried, carried_out}

-- the lent row holds what was stored or shown
row_holds : (p out out₁ : List ℕ) (n : ℕ) → n ≡ length p → out₁ ≡ p ++ drop (length p) out → take n out₁ ≡ p
row_holds p out out₁ n l e = ap (take n) e ∙ take_at p (drop (length p) out) n (sym l)

line_long : (p : List ℕ) → a_line p ≡ true → length p ≡ 64
line_long p h = eqb-true (length p) 64 (and_parts (eqb (length p) 64) _ h).0

and_yes : (a b : Bool) → b ≡ true → a ≡ (a && b)
and_yes true b e = sym e
and_yes false b e = refl

pub carries : (w : World) (m : List ℕ) (a : Act) (r : Told) (out out₁ : List ℕ) → ((k : ℕ) (p : List ℕ) → a ≡ store k p → a_line p ≡ true) → ActTold a r out out₁ →
    carried_out r (in_memory w m) out₁ ≡ acted w m a
unfolding ActTold
carries w m (read k) r out out₁ s t = ap (λ x. carried_out x (in_memory w m) out₁) t.0
carries w m (store k p) r out out₁ s t =
    ap (λ x. carried_out x (in_memory w m) out₁) t.0
    ∙ ap₂ (λ b q. pick b (going (on_device m (storing w.device k q)) next [] 1) (ended (in_memory w m) [] 1001))
    (and_yes (ltb k (length w.device.lines)) (a_line p) (s k p refl)) (row_holds p out out₁ 64 (sym (line_long p (s k p refl))) t.1)
carries w m (settle k) r out out₁ s t = ap (λ x. carried_out x (in_memory w m) out₁) t.0
carries w m (shows q) r out out₁ s t =
    ap (λ x. carried_out x (in_memory w m) out₁) t.0 ∙ ap (λ x. going (in_memory w m) next (x ∷ []) 0) (row_holds q out out₁ (length q) refl t.1)
carries w m done r out out₁ s t = ap (λ x. carried_out x (in_memory w m) out₁) t.0
carries w m (refused k) r out out₁ s t = ap (λ x. carried_out x (in_memory w m) out₁) t.0

-- plain's run, one act at a time
module _ (n : ℕ) (e : Engine) (w : World) (ss : List (List ℕ)) (r : ℕ) (m : List ℕ) where
  used : (w₁ : World) (ev : Event) → runs n e w₁ ev ss (suc r) ≡ runs n e w₁ ev (ss ++ []) (r + 1)
  used w₁ ev = ap₂ (runs n e w₁ ev) (sym (append-nil ss)) (sym (add-one r))

  unused : (w₁ : World) (ev : Event) (ss₁ : List (List ℕ)) → runs n e w₁ ev ss₁ r ≡ runs n e w₁ ev ss₁ (r + 0)
  unused w₁ ev ss₁ = ap (runs n e w₁ ev ss₁) (sym (add-zero r))

  over : (w₁ : World) (k : ℕ) → ran w₁ ss r k ≡ ran w₁ (ss ++ []) r k
  over w₁ k = ap (λ ss₁. ran w₁ ss₁ r k) (sym (append-nil ss))

  stored : (b : Bool) (w₁ w₂ : World) → pick b (runs n e w₁ next ss (suc r)) (ran w₂ ss r 1001) ≡ carried n e ss r (pick b (going w₁ next [] 1) (ended w₂ [] 1001))
  unfolding carried
  stored true w₁ w₂ = used w₁ next
  stored false w₁ w₂ = over w₂ 1001

  one_carried : (a : Act) → one_act (λ w₁ ev₁ ss₁ r₁. runs n e w₁ ev₁ ss₁ r₁) w ss r m a ≡ carried n e ss r (acted w m a)
  unfolding one_act carried
  one_carried (read k) = used _ _
  one_carried (store k p) = stored (storable w.device k p) _ _
  one_carried (settle k) = unused _ _ ss ∙ ap (λ ss₁. runs n e _ next ss₁ (r + 0)) (sym (append-nil ss))
  one_carried (shows s) = unused _ _ (ss ++ s ∷ [])
  one_carried done = over _ 0
  one_carried (refused k) = over _ _

pub runs_carried : (n : ℕ) (e : Engine) (w : World) (ev : Event) (ss : List (List ℕ)) (r : ℕ) → runs (suc n) e w ev ss r ≡ carried n e ss r (acted_by e w ev)
unfolding runs acted_by
runs_carried n e w ev ss r = one_carried n e w ss r (e.step w.memory ev).memory (e.step w.memory ev).act

-- one act of the code: memory and row come back from being lent
pub acts : (d : Device) (k n l : ℕ) (ev : Event) (m₀ m m₁ out₀ out out₁ bs : List ℕ) (r : Told) → k ≤ 3 → event_of k bs ≡ ev → n ≡ length m₀ → n ≡ 262144 → l ≡ length out₀ → l ≡ 131072 → m ≡ m₀ → out ≡ out₀ →
    length m₁ ≡ length m → length out₁ ≡ length out → StepSays m k bs out (step_fits m k bs out) r m₁ out₁ →
    acted_by own (record { device = d; memory = m₀ }) ev
    ≡ carried_out r (record { device = d; memory = take n (m₁ ++ drop (length m₁) m₀) }) (take l (out₁ ++ drop (length out₁) out₀))
unfolding acted_by StepOf StoresLines
acts d k n l ev m₀ m m₁ out₀ out out₁ bs r k3 ek n₁ n₂ l₁ l₂ em eo lm lo says =
    let fit = fits_so own length_start m k bs out (ap length em ∙ (sym n₁ ∙ n₂), k3, let z : length out ≡ 131072 = ap length eo ∙ (sym l₁ ∙ l₂) in omega arith) in
    let told = subst (λ b. StepSays m k bs out b r m₁ out₁) fit says in
    ap₂ (λ x v. acted (record { device = d; memory = x }) (own.step x v).memory (own.step x v).act) (sym em) (sym ek)
    ∙ (sym (carries (record { device = d; memory = m }) (own.step m (event_of k bs)).memory (own.step m (event_of k bs)).act r out out₁ (λ i p e. stores_lines m (event_of k bs) i p e) told.1)
    ∙ sym (ap₂ (λ x y. carried_out r (record { device = d; memory = x }) y)
    (lent_back n m₁ m₀ (lm ∙ ap length em) n₁ ∙ told.0) (lent_back l out₁ out₀ (lo ∙ ap length eo) l₁)))

pub few_kinds : (ev : told.Event) → kind_of ev ≤ 3
few_kinds (On n) = omega arith
few_kinds (Said bs) = omega arith
few_kinds (Line bs) = omega arith
few_kinds Next = omega arith
