-- What is told: what fits, and what a step of any engine comes to.
use Rattle.std.proofs.Common.{◌≡◌, ℕ, Bool, true, false, eqb, leb, IsTrue, ◌↔◌, List, length, refl, sym}
use Rattle.std.proofs.lemmas.Bool.{eq-eqb, le-leb, eqb-true, leb-true, and_parts}
use Rattle.plain.specs.Run.{Engine, Event}
use Rattle.events.specs.declared.told.Told.{Told}
use Rattle.events.specs.declared.told.Told.TheVariants.{No}
use Rattle.events.specs.Entry.{HasSizes, event_of, StepTold, StepOf, fits_of}

-- an engine whose memory is of 262,144 words: what does not fit changes nothing, and what fits is a step
module _ (e : Engine) (start : length e.start ≡ 262144) (m : List ℕ) (k : ℕ) (bs out : List ℕ) where
  pub fits_so : HasSizes m k out → fits_of e m k bs out ≡ true
  unfolding fits_of
  fits_so h = rw (start, eq-eqb (length m) 262144 h.0, le-leb k 3 h.1, le-leb 131072 (length out) h.2)

  sizes_so : fits_of e m k bs out ≡ true → HasSizes m k out
  unfolding fits_of
  sizes_so h =
      let a = and_parts (eqb (length m) 262144) _ (rw start at h) in
      let b = and_parts (leb k 3) _ a.1 in (eqb-true _ _ a.0, leb-true _ _ b.0, leb-true _ _ b.1)

  pub fits_is : (b : Bool) → (IsTrue b ↔ HasSizes m k out) → fits_of e m k bs out ≡ b
  fits_is true h = fits_so (h.0 refl)
  fits_is false h = go (fits_of e m k bs out) refl
    where
      go : (b : Bool) → fits_of e m k bs out ≡ b → b ≡ false
      go true f = sym (h.1 (sizes_so f))
      go false f = refl

  pub unfit : (IsTrue false ↔ HasSizes m k out) → StepOf e m k bs out (fits_of e m k bs out) (No 0) m out
  unfolding StepOf
  unfit h = rw (fits_is false h) (refl, refl, refl)

  pub fit : (r : Told) (m₁ out₁ : List ℕ) (ev : Event) → (IsTrue true ↔ HasSizes m k out) → ev ≡ event_of k bs → StepTold (e.step m ev) r m₁ out out₁ →
      StepOf e m k bs out (fits_of e m k bs out) r m₁ out₁
  unfolding StepOf
  fit r m₁ out₁ ev h g s = rw (fits_is true h, ← g) s
