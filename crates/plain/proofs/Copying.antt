-- Copying a formula: onto itself, and on from a copy. Assumes nothing.
use Rattle.std.proofs.Common.{◌≡◌, ℕ, ◌+◌, ◌-◌, ◌<◌, ◌≤◌, Bool, true, false, not, ◌&&◌, ltb, leb, List, [], ◌∷◌, length, refl, ap, ◌∙◌, ap₂, arith}
use Rattle.std.proofs.lemmas.Bool.{both_ways, ltb-true, leb-true, lt-ltb, le-leb, and_parts, and_from}
use Rattle.plain.specs.Term.{pick, none_of, Ref, Term, Terms, const, cell, area, named, gone, opposite, bin, call, no_terms, term_and}
use Rattle.plain.specs.Commands.{a_ref, a_term, all_terms, count_terms, depth, term_spelled, mapped, mapped_all, shifted, ref_from, copy_ref, cell_if, area_if, copied}
use Rattle.plain.specs.Promise.{CopiedSame}
use Rattle.plain.specs.Laws.{ref_stays, stays, all_stay, CopiedOn}
use Rattle.plain.proofs.Members.{pick_yes, leb_same}

-- where a coordinate goes to: there if it comes down on the sheet, else nowhere
shifted_to : (from to top n : ℕ) → from ≤ n + to → n + to - from < top → shifted from to top false n ≡ (n + to - from) ∷ []
shifted_to from to top n h k =
    pick_yes (leb from (n + to) && ltb (n + to - from) top) ((n + to - from) ∷ []) []
    (and_from (leb from (n + to)) (ltb (n + to - from) top) (le-leb from (n + to) h) (lt-ltb (n + to - from) top k))

shifted_same : (c top n : ℕ) (fix : Bool) → n < top → shifted c c top fix n ≡ n ∷ []
shifted_same c top n true h = refl
shifted_same c top n false h =
    let e : n + c - c ≡ n = omega arith in
    shifted_to c c top n (omega arith) (omega arith) ∙ ap (λ m. m ∷ []) e

-- ONTO ITSELF
copy_ref_same : (c r : ℕ) (a : Ref) → a_ref a ≡ true → copy_ref c r c r a ≡ a ∷ []
unfolding ref_from
copy_ref_same c r a h =
    let k = and_parts (ltb a.col 256) (ltb a.row 65536) h in
    ap₂ (λ cs rs. ref_from cs rs a) (shifted_same c 256 a.col a.fix_col (ltb-true a.col 256 k.0))
    (shifted_same r 65536 a.row a.fix_row (ltb-true a.row 65536 k.1))

mutual
  unfolding mapped mapped_all a_term all_terms

  pub copy_same : (c r : ℕ) (t : Term) → a_term t ≡ true → copied c r c r t ≡ t
  copy_same c r (const v) h = refl
  copy_same c r (cell a) h = ap cell_if (copy_ref_same c r a h)
  copy_same c r (area a b) h =
      let k = and_parts (a_ref a) (a_ref b) h in
      ap₂ area_if (copy_ref_same c r a k.0) (copy_ref_same c r b k.1)
  copy_same c r (named n) h = refl
  copy_same c r gone h = refl
  copy_same c r (opposite t) h = ap opposite (copy_same c r t h)
  copy_same c r (bin k a b) h =
      let p = and_parts (ltb k 8) (a_term a && a_term b) h in
      let q = and_parts (a_term a) (a_term b) p.1 in
      ap₂ (bin k) (copy_same c r a q.0) (copy_same c r b q.1)
  copy_same c r (call k ts) h =
      let p = and_parts (ltb k 10) (leb (count_terms ts) 16 && all_terms ts) h in
      let q = and_parts (leb (count_terms ts) 16) (all_terms ts) p.1 in
      ap (call k) (copy_all_same c r ts q.1)

  copy_all_same : (c r : ℕ) (ts : Terms) → all_terms ts ≡ true →
      mapped_all (λ a. cell_if (copy_ref c r c r a)) (λ a b. area_if (copy_ref c r c r a) (copy_ref c r c r b)) ts ≡ ts
  copy_all_same c r no_terms h = refl
  copy_all_same c r (term_and t ts) h =
      let k = and_parts (a_term t) (all_terms ts) h in
      ap₂ term_and (copy_same c r t k.0) (copy_all_same c r ts k.1)

pub copied_same : CopiedSame
unfolding CopiedSame
copied_same t c r h =
    let k = and_parts (a_term t && leb (depth t) 32) (leb (length (term_spelled t)) 1024) h in
    copy_same c r t (and_parts (a_term t) (leb (depth t) 32) k.0).0

-- ON FROM A COPY: a coordinate that is there after the first step is, after the second, where both together bring it
shifted_is : (from to top n m : ℕ) (ms : List ℕ) → shifted from to top false n ≡ m ∷ ms → (from ≤ n + to) × (m ≡ n + to - from)
shifted_is from to top n m ms = go (leb from (n + to)) (ltb (n + to - from) top) refl
  where
    go : (b c : Bool) → leb from (n + to) ≡ b → pick (b && c) ((n + to - from) ∷ []) [] ≡ m ∷ ms → (from ≤ n + to) × (m ≡ n + to - from)
    go true true e h = (leb-true from (n + to) e, cc)
    go true false e h = let z : ◌≡◌ {A = ℕ} 0 1 = cc in absurd (omega arith)
    go false c e h = let z : ◌≡◌ {A = ℕ} 0 1 = cc in absurd (omega arith)

shifted_on : (c₀ c₁ c₂ top n m : ℕ) (ms : List ℕ) (fix : Bool) → shifted c₀ c₁ top fix n ≡ m ∷ ms → shifted c₁ c₂ top fix m ≡ shifted c₀ c₂ top fix n
shifted_on c₀ c₁ c₂ top n m ms true e = cc
shifted_on c₀ c₁ c₂ top n m ms false e =
    let h = shifted_is c₀ c₁ top n m ms e in
    let h₀ = h.0 in
    let h₁ = h.1 in
    let k : m + c₂ - c₁ ≡ n + c₂ - c₀ = omega arith in
    ap₂ (λ b x. pick (b && ltb x top) (x ∷ []) []) (leb_same c₁ (m + c₂) c₀ (n + c₂) (λ l. omega arith) (λ l. omega arith)) k

-- what is fixed of a place is all that the place's copy takes from it
ref_from_fix : (cs rs : List ℕ) (a : Ref) (c r : ℕ) → ref_from cs rs (record { col = c; row = r; fix_col = a.fix_col; fix_row = a.fix_row }) ≡ ref_from cs rs a
unfolding ref_from
ref_from_fix [] rs a c r = refl
ref_from_fix (x ∷ cs) [] a c r = refl
ref_from_fix (x ∷ cs) (y ∷ rs) a c r = refl

module _ (c₀ r₀ c₁ r₁ c₂ r₂ : ℕ) where
  abbrev On : Ref → Type 0
  On a = (b : Ref) × (copy_ref c₀ r₀ c₁ r₁ a ≡ b ∷ []) × (copy_ref c₁ r₁ c₂ r₂ b ≡ copy_ref c₀ r₀ c₂ r₂ a)

  ref_on : (a : Ref) → ref_stays c₀ r₀ c₁ r₁ a ≡ true → On a
  unfolding ref_from
  ref_on a = go (shifted c₀ c₁ 256 a.fix_col a.col) (shifted r₀ r₁ 65536 a.fix_row a.row) refl refl
    where
      go : (cs rs : List ℕ) → shifted c₀ c₁ 256 a.fix_col a.col ≡ cs → shifted r₀ r₁ 65536 a.fix_row a.row ≡ rs →
          not (none_of (ref_from cs rs a)) ≡ true → On a
      go [] rs e₁ e₂ h = absurd (both_ways false refl h)
      go (c ∷ cs) [] e₁ e₂ h = absurd (both_ways false refl h)
      go (c ∷ cs) (r ∷ rs) e₁ e₂ h = (
        record { col = c; row = r; fix_col = a.fix_col; fix_row = a.fix_row },
        ap₂ (λ xs ys. ref_from xs ys a) e₁ e₂,
        ref_from_fix (shifted c₁ c₂ 256 a.fix_col c) (shifted r₁ r₂ 65536 a.fix_row r) a c r
            ∙ ap₂ (λ xs ys. ref_from xs ys a) (shifted_on c₀ c₁ c₂ 256 a.col c cs a.fix_col e₁) (shifted_on r₀ r₁ r₂ 65536 a.row r rs a.fix_row e₂),
      )

  cell_on : (a : Ref) → On a → copied c₁ r₁ c₂ r₂ (cell_if (copy_ref c₀ r₀ c₁ r₁ a)) ≡ cell_if (copy_ref c₀ r₀ c₂ r₂ a)
  unfolding mapped
  cell_on a h = ap (λ bs. copied c₁ r₁ c₂ r₂ (cell_if bs)) h.1 ∙ ap cell_if h.2

  area_on : (a b : Ref) → On a → On b → copied c₁ r₁ c₂ r₂ (area_if (copy_ref c₀ r₀ c₁ r₁ a) (copy_ref c₀ r₀ c₁ r₁ b)) ≡ area_if (copy_ref c₀ r₀ c₂ r₂ a) (copy_ref c₀ r₀ c₂ r₂ b)
  unfolding mapped
  area_on a b h k = ap₂ (λ as₁ bs. copied c₁ r₁ c₂ r₂ (area_if as₁ bs)) h.1 k.1 ∙ ap₂ area_if h.2 k.2

  abbrev copied_all : ℕ → ℕ → ℕ → ℕ → Terms → Terms
  copied_all c r d q ts = mapped_all (λ a. cell_if (copy_ref c r d q a)) (λ a b. area_if (copy_ref c r d q a) (copy_ref c r d q b)) ts

  mutual
    unfolding mapped mapped_all stays all_stay

    pub copy_on : (t : Term) → stays c₀ r₀ c₁ r₁ t ≡ true → copied c₁ r₁ c₂ r₂ (copied c₀ r₀ c₁ r₁ t) ≡ copied c₀ r₀ c₂ r₂ t
    copy_on (const v) h = refl
    copy_on (cell a) h = cell_on a (ref_on a h)
    copy_on (area a b) h = let k = and_parts (ref_stays c₀ r₀ c₁ r₁ a) (ref_stays c₀ r₀ c₁ r₁ b) h in area_on a b (ref_on a k.0) (ref_on b k.1)
    copy_on (named n) h = refl
    copy_on gone h = refl
    copy_on (opposite t) h = ap opposite (copy_on t h)
    copy_on (bin k a b) h = let p = and_parts (stays c₀ r₀ c₁ r₁ a) (stays c₀ r₀ c₁ r₁ b) h in ap₂ (bin k) (copy_on a p.0) (copy_on b p.1)
    copy_on (call k ts) h = ap (call k) (copy_all_on ts h)

    copy_all_on : (ts : Terms) → all_stay c₀ r₀ c₁ r₁ ts ≡ true → copied_all c₁ r₁ c₂ r₂ (copied_all c₀ r₀ c₁ r₁ ts) ≡ copied_all c₀ r₀ c₂ r₂ ts
    copy_all_on no_terms h = refl
    copy_all_on (term_and t ts) h = let p = and_parts (stays c₀ r₀ c₁ r₁ t) (all_stay c₀ r₀ c₁ r₁ ts) h in ap₂ term_and (copy_on t p.0) (copy_all_on ts p.1)

pub copied_on : CopiedOn
unfolding CopiedOn
copied_on t c₀ r₀ c₁ r₁ c₂ r₂ h = copy_on c₀ r₀ c₁ r₁ c₂ r₂ t h
