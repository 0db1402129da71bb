-- Areas with a gap put into them: the places of a box that something was put into, and what a look that has nothing in the gap gives there. Sums,
-- counts, least and greatest go by what there is, in order, and so do not see the gap. Assumes nothing.
use Rattle.std.proofs.Common.{◌≡◌, ℕ, zero, suc, ◌+◌, ◌-◌, ◌<◌, ◌≤◌, Bool, not, eqb, ltb, leb, ◌⊎◌, List, [], ◌∷◌, ◌++◌, sym, refl, ap, ◌∙◌, ap₂, inl, inr, arith}
use Rattle.std.proofs.lemmas.Bool.{cases_eq}
use Rattle.plain.specs.Term.{pick, each, those, Num, Value, empty, num, txt, truth, wrong, smaller, larger, kind}
use Rattle.plain.specs.Sheet.{Place, along, down, first_wrong, numbers, unless_wrong, over_all, Look}
use Rattle.plain.specs.Commands.{moved_on}
use Rattle.plain.proofs.Members.{leb_same, eqb_same, pick_ap, each_append}
use Rattle.plain.proofs.Inserting.{moved_is}

-- coordinates keep their order when something is put in at p
module _ (p k : ℕ) where
  pub leb_moved : (a b : ℕ) → leb (moved_on p k a) (moved_on p k b) ≡ leb a b
  leb_moved a b =
      let h = moved_is p k a in
      let l = moved_is p k b in
      leb_same (moved_on p k a) (moved_on p k b) a b (λ e. omega arith) (λ e. omega arith)

  pub eqb_moved : (a b : ℕ) → eqb (moved_on p k a) (moved_on p k b) ≡ eqb a b
  eqb_moved a b =
      let h = moved_is p k a in
      let l = moved_is p k b in
      eqb_same (moved_on p k a) (moved_on p k b) a b (λ e. omega arith) (λ e. omega arith)

  ltb_moved : (a b : ℕ) → ltb (moved_on p k a) (moved_on p k b) ≡ ltb a b
  ltb_moved a b =
      let h = moved_is p k a in
      let l = moved_is p k b in
      leb_same (suc (moved_on p k a)) (moved_on p k b) (suc a) b (λ e. omega arith) (λ e. omega arith)

  pub smaller_moved : (a b : ℕ) → smaller (moved_on p k a) (moved_on p k b) ≡ moved_on p k (smaller a b)
  smaller_moved a b = ap (λ (t : Bool). pick t (moved_on p k a) (moved_on p k b)) (ltb_moved a b) ∙ pick_ap (moved_on p k) (ltb a b) a b

  pub larger_moved : (a b : ℕ) → larger (moved_on p k a) (moved_on p k b) ≡ moved_on p k (larger a b)
  larger_moved a b = ap (λ (t : Bool). pick t (moved_on p k b) (moved_on p k a)) (ltb_moved a b) ∙ pick_ap (moved_on p k) (ltb a b) b a

  -- one row or column stays one, and more stay more
  pub lone_moved : (a b : ℕ) → a ≤ b → eqb (suc (moved_on p k b - moved_on p k a)) 1 ≡ eqb (suc (b - a)) 1
  lone_moved a b u =
      let h = moved_is p k a in
      let l = moved_is p k b in
      eqb_same (suc (moved_on p k b - moved_on p k a)) 1 (suc (b - a)) 1 (λ e. omega arith) (λ e. omega arith)

-- WHAT THERE IS among some values: all but nothing
abbrev pub solid : List Value → List Value
solid vs = those (λ v. not (eqb (kind v) 0)) vs

solid_cons : (v : Value) (vs : List Value) → solid (v ∷ vs) ≡ solid (v ∷ []) ++ solid vs
solid_cons empty vs = refl
solid_cons (num n) vs = refl
solid_cons (txt b) vs = refl
solid_cons (truth b) vs = refl
solid_cons (wrong j) vs = refl

pub solid_append : (vs ws : List Value) → solid (vs ++ ws) ≡ solid vs ++ solid ws
solid_append [] ws = refl
solid_append (empty ∷ vs) ws = solid_append vs ws
solid_append (num n ∷ vs) ws = ap (◌∷◌ (num n)) (solid_append vs ws)
solid_append (txt b ∷ vs) ws = ap (◌∷◌ (txt b)) (solid_append vs ws)
solid_append (truth b ∷ vs) ws = ap (◌∷◌ (truth b)) (solid_append vs ws)
solid_append (wrong j ∷ vs) ws = ap (◌∷◌ (wrong j)) (solid_append vs ws)

first_wrong_solid : (vs : List Value) → first_wrong vs ≡ first_wrong (solid vs)
unfolding first_wrong
first_wrong_solid [] = refl
first_wrong_solid (empty ∷ vs) = first_wrong_solid vs
first_wrong_solid (num n ∷ vs) = first_wrong_solid vs
first_wrong_solid (txt b ∷ vs) = first_wrong_solid vs
first_wrong_solid (truth b ∷ vs) = first_wrong_solid vs
first_wrong_solid (wrong j ∷ vs) = refl

numbers_solid : (vs : List Value) → numbers vs ≡ numbers (solid vs)
numbers_solid [] = refl
numbers_solid (empty ∷ vs) = numbers_solid vs
numbers_solid (num n ∷ vs) = ap (◌∷◌ n) (numbers_solid vs)
numbers_solid (txt b ∷ vs) = numbers_solid vs
numbers_solid (truth b ∷ vs) = numbers_solid vs
numbers_solid (wrong j ∷ vs) = numbers_solid vs

-- all that goes over values goes by what there is
pub over_all_solid : (f : List Num → Value) (vs ws : List Value) → solid vs ≡ solid ws → over_all f vs ≡ over_all f ws
over_all_solid f vs ws e =
    ap₂ (λ xs ns. unless_wrong xs (f ns)) (first_wrong_solid vs ∙ ap first_wrong e ∙ sym (first_wrong_solid ws)) (numbers_solid vs ∙ ap numbers e ∙ sym (numbers_solid ws))

-- STRETCHES: what g gives at r, r + 1 and on, so many
unfoldable pub run : (ℕ → List Value) → ℕ → ℕ → List Value
run g r zero = []
run g r (suc n) = g r ++ run g (suc r) n

pub run_same : (g h : ℕ → List Value) → ((i : ℕ) → g i ≡ h i) → (r n : ℕ) → run g r n ≡ run h r n
unfolding run
run_same g h e r zero = refl
run_same g h e r (suc n) = ap₂ ◌++◌ (e r) (run_same g h e (suc r) n)

pub run_none : (g : ℕ → List Value) → ((i : ℕ) → g i ≡ []) → (r n : ℕ) → run g r n ≡ []
unfolding run
run_none g e r zero = refl
run_none g e r (suc n) = ap₂ ◌++◌ (e r) (run_none g e (suc r) n)

run_skip : (g : ℕ → List Value) (r k y : ℕ) → ((i : ℕ) → r ≤ i → i < r + k → g i ≡ []) → run g r (k + y) ≡ run g (r + k) y
unfolding run
run_skip g r zero y e = let a : r ≡ r + 0 = omega arith in let b : 0 + y ≡ y = omega arith in ap₂ (run g) a b
run_skip g r (suc k) y e =
    let a : suc k + y ≡ suc (k + y) = omega arith in
    let b : suc r + k ≡ r + suc k = omega arith in
    ap (run g r) a ∙ ap₂ ◌++◌ (e r (omega arith) (omega arith)) (run_skip g (suc r) k y (λ i h l. e i (omega arith) (omega arith))) ∙ ap (λ n. run g n y) b

-- a stretch with a gap put in, where h gives nothing in the gap, and elsewhere what g gave
module _ (p k : ℕ) (g h : ℕ → List Value) (on : (i : ℕ) → h (moved_on p k i) ≡ g i) (gap : (i : ℕ) → p ≤ i → i < p + k → h i ≡ []) where
  run_step : (lo n : ℕ) → run h (suc (moved_on p k lo)) (moved_on p k (lo + suc n) - moved_on p k lo) ≡ run h (moved_on p k (suc lo)) (suc (moved_on p k (suc lo + n) - moved_on p k (suc lo)))
  run_step lo n = go (cases_eq (suc lo) p)
    where
      go : (suc lo ≡ p) ⊎ (suc lo ≡ p → ⊥) → run h (suc (moved_on p k lo)) (moved_on p k (lo + suc n) - moved_on p k lo) ≡ run h (moved_on p k (suc lo)) (suc (moved_on p k (suc lo + n) - moved_on p k (suc lo)))
      go (inl e) =
          let h₁ = moved_is p k lo in
          let h₂ = moved_is p k (suc lo) in
          let h₃ = moved_is p k (lo + suc n) in
          let h₄ = moved_is p k (suc lo + n) in
          let a : suc (moved_on p k lo) ≡ suc lo = omega arith in
          let b : moved_on p k (lo + suc n) - moved_on p k lo ≡ k + suc n = omega arith in
          let c : suc lo + k ≡ moved_on p k (suc lo) = omega arith in
          let d : suc n ≡ suc (moved_on p k (suc lo + n) - moved_on p k (suc lo)) = omega arith in
          ap₂ (run h) a b ∙ run_skip h (suc lo) k (suc n) (λ i l m. gap i (omega arith) (omega arith)) ∙ ap₂ (run h) c d
      go (inr e) =
          let h₁ = moved_is p k lo in
          let h₂ = moved_is p k (suc lo) in
          let h₃ = moved_is p k (lo + suc n) in
          let h₄ = moved_is p k (suc lo + n) in
          let a : suc (moved_on p k lo) ≡ moved_on p k (suc lo) = omega arith in
          let b : moved_on p k (lo + suc n) - moved_on p k lo ≡ suc (moved_on p k (suc lo + n) - moved_on p k (suc lo)) = omega arith in
          ap₂ (run h) a b

  run_moved : (n lo : ℕ) → run h (moved_on p k lo) (suc (moved_on p k (lo + n) - moved_on p k lo)) ≡ run g lo (suc n)
  unfolding run
  run_moved zero lo =
      let a : lo + 0 ≡ lo = omega arith in
      let b : moved_on p k lo - moved_on p k lo ≡ 0 = omega arith in
      ap (λ m. run h (moved_on p k lo) (suc (moved_on p k m - moved_on p k lo))) a ∙ ap (λ m. run h (moved_on p k lo) (suc m)) b ∙ ap (λ vs. vs ++ []) (on lo)
  run_moved (suc n) lo = ap₂ ◌++◌ (on lo) (run_step lo n ∙ run_moved n (suc lo))

  pub run_between : (lo hi : ℕ) → lo ≤ hi → run h (moved_on p k lo) (suc (moved_on p k hi - moved_on p k lo)) ≡ run g lo (suc (hi - lo))
  run_between lo hi u =
      let a : hi ≡ lo + (hi - lo) = omega arith in
      ap (λ m. run h (moved_on p k lo) (suc (moved_on p k m - moved_on p k lo))) a ∙ run_moved (hi - lo) lo

-- a row, and the rows of a box, as stretches
abbrev pub spot : ℕ → ℕ → Place
spot c r = record { col = c; row = r }

pub along_run : (f : Look) (r c n : ℕ) → solid (each f (along r c n)) ≡ run (λ i. solid (f (spot i r) ∷ [])) c n
unfolding run along
along_run f r c zero = refl
along_run f r c (suc n) = solid_cons (f (spot c r)) (each f (along r (suc c) n)) ∙ ap (◌++◌ (solid (f (spot c r) ∷ []))) (along_run f r (suc c) n)

pub down_run : (f : Look) (c w n r : ℕ) → solid (each f (down r c w n)) ≡ run (λ i. solid (each f (along i c w))) r n
unfolding run down
down_run f c w zero r = refl
down_run f c w (suc n) r =
    ap solid (each_append f (along r c w) (down (suc r) c w n)) ∙ solid_append (each f (along r c w)) (each f (down (suc r) c w n))
    ∙ ap (◌++◌ (solid (each f (along r c w)))) (down_run f c w n (suc r))
