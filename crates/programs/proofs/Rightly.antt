-- From what is owed of a machine's programs to its being right, whatever comes and whatever stops.
use Rattle.std.proofs.Common.{◌≡◌, ℕ, Bool, true, false, ◌⊎◌, List, [], ◌∷◌, ◌++◌, length, sym, refl, ap, ◌∙◌, subst, inl, inr}
use mathlib.Core.Bool.{false≢true}
use Rattle.plain.specs.Device.{stopped}
use Rattle.plain.specs.Run.{World, Ran, Item, power, power_stops, whole, stops, proper, Right, dark, woken, ran_as, on_device}
use Rattle.programs.specs.Machine.{Machine, Laws}
use Rattle.programs.specs.Beside as beside
use Rattle.programs.specs.Beside.{Plain, WakeCrash, WakeEnd, SaidCrash, SaidEnd, Owed, Stands, RightAlways}
use Rattle.programs.specs.Fates.{Ended, Running}
use Rattle.programs.proofs.Fate.{said_whole, said_stop, on_whole, on_stop}

module _ (M : Machine) (Ok : M.Reg → Type 0) (L : Laws M Ok) (H : Plain M) (O : Owed M H Ok) where
  abbrev Rest : World → H.S → List Item → Type 0
  Rest v s is = Right H.may H.after M.engine v s is

  abbrev Woke : ℕ → H.S → Ran → Type 0
  Woke n s x = Ended M Ok (WakeCrash M H n s) (WakeEnd M H n s) x

  abbrev Waking : ℕ → H.S → Ran → Type 0
  Waking n s x = Running M Ok (WakeCrash M H n s) (WakeEnd M H n s) x

  abbrev Heard : ℕ → H.S → List ℕ → H.S → Ran → Type 0
  Heard n s t s₁ x = Ended M Ok (SaidCrash M H n s s₁) (SaidEnd M H n s t s₁) x

  abbrev Hearing : ℕ → H.S → List ℕ → H.S → Ran → Type 0
  Hearing n s t s₁ x = Running M Ok (SaidCrash M H n s s₁) (SaidEnd M H n s t s₁) x

  -- what comes after, of a device without power, and of a world with
  abbrev DarkRest : List Item → H.S → Type 0
  DarkRest is s = (v : World) → H.Down (length is) s v.device → Rest v s is

  abbrev LitRest : List Item → H.S → Type 0
  LitRest is s = (v : World) (r : M.Reg) → M.Holds v.memory r [] → H.Up (length is) s r v.device → Rest v s is

  power_goes : (is : List Item) (s : H.S) (x : Ran) → Woke (length is) s x → LitRest is s → (x.end ≡ 0) × (x.showed ≡ []) × Rest x.here s is
  power_goes is s x w f = (
    ap (λ (y : Ran). y.end) w.4 ∙ w.8.0,
    ap (λ (y : Ran). y.showed) w.4 ∙ w.9.0,
    subst (λ (y : Ran). Rest y.here s is) (sym w.4)
        (f (on_device w.0 w.3.device) w.1 w.5 w.8.1),
  )

  power_cut : (is : List Item) (s : H.S) (cs : List ℕ) (x : Ran) → Woke (length is) s x ⊎ Waking (length is) s x → DarkRest is s
      → ((x.end ≡ 0) ⊎ (x.end ≡ 1000)) × (x.showed ≡ []) × Rest (dark x.here cs) s is
  power_cut is s cs x (inl w) f = (
    inl (ap (λ (y : Ran). y.end) w.4 ∙ w.8.0),
    ap (λ (y : Ran). y.showed) w.4 ∙ w.9.0,
    subst (λ (y : Ran). Rest (dark y.here cs) s is) (sym w.4) (f (dark (on_device w.0 w.3.device) cs) (w.9.1 cs)),
  )
  power_cut is s cs x (inr w) f = (
    inr (ap (λ (y : Ran). y.end) w.2),
    ap (λ (y : Ran). y.showed) w.2 ∙ w.3.0,
    subst (λ (y : Ran). Rest (dark y.here cs) s is) (sym w.2) (f (dark (on_device w.0 w.1.device) cs) (w.3.1 cs)),
  )

  whole_goes : (is : List Item) (s : H.S) (t : List ℕ) (s₁ : H.S) (x : Ran) → Heard (length is) s t s₁ x → LitRest is s₁
      → H.may s t x.showed x.lines_used x.end s₁ × Rest x.here s₁ is
  whole_goes is s t s₁ x w f = (
    subst (λ (y : Ran). H.may s t y.showed y.lines_used y.end s₁) (sym w.4) w.8.0,
    subst (λ (y : Ran). Rest y.here s₁ is) (sym w.4)
        (f (on_device w.0 w.3.device) w.1 w.5 w.8.1),
  )

  abbrev CutShort : H.S → List ℕ → Ran → H.S → Type 0
  CutShort s t x s₁ =
      H.may s t x.showed x.lines_used x.end s₁
      ⊎ ((x.end ≡ 1000) × (more : List (List ℕ)) × (r : ℕ) × (reply : ℕ) × (s₂ : H.S)
      × H.may s t (x.showed ++ more) r reply s₂ × ((s₁ ≡ s) ⊎ (s₁ ≡ s₂)))

  stop_cut : (is : List Item) (s : H.S) (t cs : List ℕ) (s₁ : H.S) (x : Ran)
      → Heard (length is) s t s₁ x ⊎ Hearing (length is) s t s₁ x → ((s₂ : H.S) → DarkRest is s₂)
      → (s₂ : H.S) × CutShort s t x s₂ × Rest (dark x.here cs) (H.after s₂) is
  stop_cut is s t cs s₁ x (inl w) f = (
    s₁,
    inl (subst (λ (y : Ran). H.may s t y.showed y.lines_used y.end s₁) (sym w.4) w.8.0),
    subst (λ (y : Ran). Rest (dark y.here cs) (H.after s₁) is) (sym w.4)
        (f (H.after s₁) (dark (on_device w.0 w.3.device) cs) (O.cut (length is) s₁ w.1 w.3.device cs w.8.1)),
  )
  stop_cut is s t cs s₁ x (inr w) f = go (w.3 cs)
    where
      short : (s₂ : H.S) → (s₂ ≡ s) ⊎ (s₂ ≡ s₁) → CutShort s t x s₂
      short s₂ o =
          inr (
            ap (λ (y : Ran). y.end) w.2,
            w.4.3,
            w.4.2.used,
            w.4.1,
            s₁,
            subst (λ ss. H.may s t ss w.4.2.used w.4.1 s₁) (w.4.4 ∙ ap (λ (y : Ran). y.showed ++ w.4.3) (sym w.2)) w.4.6.0,
            o,
          )

      ends : (s₂ : H.S) → H.Down (length is) (H.after s₂) (stopped w.1.device cs) → Rest (dark x.here cs) (H.after s₂) is
      ends s₂ h =
          subst (λ (y : Ran). Rest (dark y.here cs) (H.after s₂) is) (sym w.2) (f (H.after s₂) (dark (on_device w.0 w.1.device) cs) h)

      go : H.Down (length is) (H.after s) (stopped w.1.device cs) ⊎ H.Down (length is) (H.after s₁) (stopped w.1.device cs)
          → (s₂ : H.S) × CutShort s t x s₂ × Rest (dark x.here cs) (H.after s₂) is
      go (inl h) = (s, short s (inl refl), ends s h)
      go (inr h) = (s₁, short s₁ (inr refl), ends s₁ h)

  pub right : (is : List Item) (up : Bool) (v : World) (s : H.S) → Stands M H up (length is) v s → proper up is ≡ true
      → Right H.may H.after M.engine v s is
  unfolding Right proper
  right [] up v s h e = refl
  right (power ∷ is) true v s h e = absurd (false≢true e)
  right (power ∷ is) false v s h e =
      let w = on_whole M Ok L (WakeCrash M H (length is) s) (WakeEnd M H (length is) s) v (O.wakes (length is) s v.device h) in
      let g = power_goes is s (woken M.engine w.0 v) w.1 (λ v₁ r a b. right is true v₁ s (r, a, b) e) in
      (w.0, g.0, g.1, g.2)
  right (power_stops n cs ∷ is) true v s h e = absurd (false≢true e)
  right (power_stops n cs ∷ is) false v s h e =
      power_cut is s cs (woken M.engine n v) (on_stop M Ok L (WakeCrash M H (length is) s) (WakeEnd M H (length is) s) v (O.wakes (length is) s v.device h) n)
      (λ v₁ b. right is false v₁ s b e)
  right (whole t ∷ is) true v s h e =
      let o = O.hears (length is) s h.0 v.device t h.2 in
      let w = said_whole M Ok L (SaidCrash M H (length is) s o.0) (SaidEnd M H (length is) s t o.0) v h.0 t (h.1, o.1) in
      let g = whole_goes is s t o.0 (ran_as M.engine w.0 v t) w.1 (λ v₁ r a b. right is true v₁ o.0 (r, a, b) e) in
      (w.0, o.0, g.0, g.1)
  right (whole t ∷ is) false v s h e = absurd (false≢true e)
  right (stops t n cs ∷ is) true v s h e =
      let o = O.hears (length is) s h.0 v.device t h.2 in
      stop_cut is s t cs o.0 (ran_as M.engine n v t)
      (said_stop M Ok L (SaidCrash M H (length is) s o.0) (SaidEnd M H (length is) s t o.0) v h.0 t (h.1, o.1) n)
      (λ s₂ v₁ b. right is false v₁ s₂ b e)
  right (stops t n cs ∷ is) false v s h e = absurd (false≢true e)

pub right_always : (b : beside.Bundle) → RightAlways b
unfolding RightAlways
right_always b = right b.M b.Ok b.laws b.H b.owed
