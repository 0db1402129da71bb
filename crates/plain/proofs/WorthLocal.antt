-- What a formula is worth depends only on the places that it refers to: on what a look gives in its boxes. Assumes nothing.
use Rattle.std.proofs.Common.{◌≡◌, ℕ, zero, suc, ◌+◌, ◌-◌, ◌*◌, ◌<◌, ◌≤◌, Bool, true, false, not, ◌&&◌, eqb, ltb, leb, ◌⊎◌, List, [], ◌∷◌, ◌++◌, length, sym, refl, ap, ◌∙◌, subst, ap₂, inl, inr, arith}
use Rattle.std.proofs.lemmas.Bool.{both_ways, ltb-true, ltb-false, leb-true, le-leb, and_parts, and_from}
use Rattle.plain.specs.Term.{pick, any, each, none_of, Value, Ref, Term, Terms, const, cell, area, named, gone, opposite, bin, call, no_terms, term_and, terms_in, Box, box, in_box, wide, high, smaller, larger, two, wrong, num, plus, truth, the_truth, million, within, as_text, kind, equal_value, numeric}
use Rattle.plain.specs.Sheet.{Name, meant, one_box, boxes_plain, boxes, boxes_all, Place, along, down, places_in, Look, area_of, values_in, values_of, lone, term_at, pair_of, in_area, all_values, called, worth, place_where, sum_where, opposite_of, over_all, total, extreme_of, choose, no_area, unless_wrong, first_wrong, whole_of, name_worth}
use Rattle.plain.specs.Laws.{In, Agree, WorthLocal}
use Rattle.plain.proofs.Members.{in_parts, in_any, any_in, in_left, in_right}

pub any_left : {A : Type 0} (f : A → Bool) (xs ys : List A) → any f xs ≡ true → any f (xs ++ ys) ≡ true
any_left f xs ys e = let r = any_in f xs e in in_any f r.0 (xs ++ ys) (in_left r.0 xs ys r.1) r.2

pub any_right : {A : Type 0} (f : A → Bool) (xs ys : List A) → any f ys ≡ true → any f (xs ++ ys) ≡ true
any_right f xs ys e = let r = any_in f ys e in in_any f r.0 (xs ++ ys) (in_right r.0 xs ys r.1) r.2

agree_left : {f g : Look} (as₁ bs : List Box) → Agree f g (as₁ ++ bs) → Agree f g as₁
agree_left as₁ bs h q e = h q (any_left (λ b. in_box b q.col q.row) as₁ bs e)

agree_right : {f g : Look} (as₁ bs : List Box) → Agree f g (as₁ ++ bs) → Agree f g bs
agree_right as₁ bs h q e = h q (any_right (λ b. in_box b q.col q.row) as₁ bs e)

-- boxes that stand the right way round, as all do that formulas have
abbrev pub Upright : Box → Type 0
Upright b = (b.left ≤ b.right) × (b.top ≤ b.bottom)

small_large : (a b : ℕ) → smaller a b ≤ larger a b
small_large a b = go (ltb a b) refl
  where
    go : (c : Bool) → ltb a b ≡ c → pick c a b ≤ pick c b a
    go true e = let h = ltb-true a b e in omega arith
    go false e = let h = ltb-false a b e in omega arith

pub box_upright : (a b : Ref) → Upright (box a b)
box_upright a b = (small_large a.col b.col, small_large a.row b.row)

small_one : (a : ℕ) → (smaller a a ≤ a) × (a ≤ larger a a)
small_one a = go (ltb a a)
  where
    go : (c : Bool) → (pick c a a ≤ a) × (a ≤ pick c a a)
    go true = (omega arith, omega arith)
    go false = (omega arith, omega arith)

plain_upright : (t : Term) (b : Box) → In b (boxes_plain t) → Upright b
unfolding boxes_plain
plain_upright (const v) b h = absurd h
plain_upright (cell a) b (inl e) = subst Upright (sym e) (box_upright a a)
plain_upright (cell a) b (inr h) = absurd h
plain_upright (area a c) b (inl e) = subst Upright (sym e) (box_upright a c)
plain_upright (area a c) b (inr h) = absurd h
plain_upright (named n) b h = absurd h
plain_upright gone b h = absurd h
plain_upright (opposite t) b h = absurd h
plain_upright (bin k a c) b h = absurd h
plain_upright (call k ts) b h = absurd h

pub area_upright : (ns : List Name) (t : Term) (b : Box) → In b (area_of ns t) → Upright b
unfolding area_of
area_upright ns (const v) b h = absurd h
area_upright ns (cell a) b (inl e) = subst Upright (sym e) (box_upright a a)
area_upright ns (cell a) b (inr h) = absurd h
area_upright ns (area a c) b (inl e) = subst Upright (sym e) (box_upright a c)
area_upright ns (area a c) b (inr h) = absurd h
area_upright ns (named n) b h = plain_upright (meant ns n) b h
area_upright ns gone b h = absurd h
area_upright ns (opposite t) b h = absurd h
area_upright ns (bin k a c) b h = absurd h
area_upright ns (call k ts) b h = absurd h

-- an argument's area is among the boxes that it refers to
pub area_agree : {f g : Look} (ns : List Name) (t : Term) → Agree f g (boxes ns t) → Agree f g (area_of ns t)
unfolding area_of boxes
area_agree ns (const v) h = h
area_agree ns (cell a) h = h
area_agree ns (area a b) h = h
area_agree ns (named n) h = h
area_agree ns gone h = h
area_agree ns (opposite t) h = λ q e. absurd (both_ways false refl e)
area_agree ns (bin k a b) h = λ q e. absurd (both_ways false refl e)
area_agree ns (call k ts) h = λ q e. absurd (both_ways false refl e)

-- the places of a box are in it
along_in : (r c n : ℕ) (q : Place) → In q (along r c n) → (q.row ≡ r) × (c ≤ q.col) × (q.col < c + n)
unfolding along
along_in r c zero q h = absurd h
along_in r c (suc n) q (inl e) = let a = ap (λ x. x.row) e in let b = ap (λ x. x.col) e in (a, omega arith, omega arith)
along_in r c (suc n) q (inr h) = let a = along_in r (suc c) n q h in (a.0, omega arith, omega arith)

down_in : (r c w n : ℕ) (q : Place) → In q (down r c w n) → (r ≤ q.row) × (q.row < r + n) × (c ≤ q.col) × (q.col < c + w)
unfolding down
down_in r c w zero q h = absurd h
down_in r c w (suc n) q h = go (down_in (suc r) c w n q) (in_parts q (along r c w) (down (suc r) c w n) h)
  where
    go : (In q (down (suc r) c w n) → (suc r ≤ q.row) × (q.row < suc r + n) × (c ≤ q.col) × (q.col < c + w)) →
        In q (along r c w) ⊎ In q (down (suc r) c w n) → (r ≤ q.row) × (q.row < r + suc n) × (c ≤ q.col) × (q.col < c + w)
    go f (inl k) = let a = along_in r c w q k in (omega arith, omega arith, a.1, a.2)
    go f (inr k) = let a = f k in (omega arith, omega arith, a.2, a.3)

pub box_has : (b : Box) (c r : ℕ) → b.left ≤ c → c ≤ b.right → b.top ≤ r → r ≤ b.bottom → in_box b c r ≡ true
box_has b c r h₁ h₂ h₃ h₄ =
    and_from (leb b.left c && leb c b.right) (leb b.top r && leb r b.bottom)
    (and_from (leb b.left c) (leb c b.right) (le-leb b.left c h₁) (le-leb c b.right h₂))
    (and_from (leb b.top r) (leb r b.bottom) (le-leb b.top r h₃) (le-leb r b.bottom h₄))

pub places_in_box : (b : Box) → Upright b → (q : Place) → In q (places_in b) → in_box b q.col q.row ≡ true
places_in_box b u q h =
    let a = down_in b.top b.left (wide b) (high b) q h in
    box_has b q.col q.row a.2 (omega arith) a.0 (omega arith)

each_same : {A B : Type 0} (f g : A → B) (xs : List A) → ((x : A) → In x xs → f x ≡ g x) → each f xs ≡ each g xs
each_same f g [] h = refl
each_same f g (x ∷ xs) h = ap₂ ◌∷◌ (h x (inl refl)) (each_same f g xs (λ y k. h y (inr k)))

-- two looks that agree on some boxes
module _ (f g : Look) where
  at_box : (b : Box) (bs : List Box) → Agree f g (b ∷ bs) → (q : Place) → in_box b q.col q.row ≡ true → f q ≡ g q
  at_box b bs h q e = h q (in_any (λ x. in_box x q.col q.row) b (b ∷ bs) (inl refl) e)

  pub values_same : (b : Box) (bs : List Box) → Upright b → Agree f g (b ∷ bs) → values_in f b ≡ values_in g b
  values_same b bs u h = each_same f g (places_in b) (λ q k. at_box b bs h q (places_in_box b u q k))

  pub values_of_same : (bs : List Box) (v w : Value) → ((b : Box) → In b bs → Upright b) → Agree f g bs → v ≡ w → values_of f bs v ≡ values_of g bs w
  values_of_same [] v w u h e = ap (λ x. x ∷ []) e
  values_of_same (b ∷ bs) v w u h e = values_same b bs (u b (inl refl)) h

  pub lone_same : (bs : List Box) → ((b : Box) → In b bs → Upright b) → Agree f g bs → lone f bs ≡ lone g bs
  lone_same [] u h = refl
  lone_same (b ∷ bs) u h =
      ap (λ x. pick (eqb (wide b) 1 && eqb (high b) 1) x (wrong 1))
      (let k = u b (inl refl) in at_box b bs h (record { col = b.left; row = b.top }) (box_has b b.left b.top (omega arith) k.0 (omega arith) k.1))

  pub in_area_same : (bs : List Box) (i j : ℕ) → ((b : Box) → In b bs → Upright b) → Agree f g bs → in_area f bs i j ≡ in_area g bs i j
  in_area_same [] i j u h = refl
  in_area_same (b ∷ bs) i j u h = go ((leb 1 i && leb i (high b)) && (leb 1 j && leb j (wide b))) refl
    where
      k : Upright b
      k = u b (inl refl)

      q : Place
      q = record { col = b.left + (j - 1); row = b.top + (i - 1) }

      go : (c : Bool) → ((leb 1 i && leb i (high b)) && (leb 1 j && leb j (wide b))) ≡ c → pick c (f q) (wrong 7) ≡ pick c (g q) (wrong 7)
      go false e = refl
      go true e =
          let ij = and_parts (leb 1 i && leb i (high b)) (leb 1 j && leb j (wide b)) e in
          let ii = and_parts (leb 1 i) (leb i (high b)) ij.0 in
          let jj = and_parts (leb 1 j) (leb j (wide b)) ij.1 in
          let i₁ = leb-true 1 i ii.0 in
          let i₂ = leb-true i (high b) ii.1 in
          let j₁ = leb-true 1 j jj.0 in
          let j₂ = leb-true j (wide b) jj.1 in
          let k₁ = k.0 in
          let k₂ = k.1 in
          at_box b bs h q (box_has b (b.left + (j - 1)) (b.top + (i - 1)) (omega arith) (omega arith) (omega arith) (omega arith))

  pub pair_same : (v₁ v₂ w₁ w₂ : Value) (as₁ bs : List Box) (h : List Value → List Value → Value) → v₁ ≡ v₂ → w₁ ≡ w₂ →
      ((b : Box) → In b as₁ → Upright b) → ((b : Box) → In b bs → Upright b) → Agree f g as₁ → Agree f g bs →
      pair_of v₁ w₁ as₁ bs (λ a b. h (values_in f a) (values_in f b)) ≡ pair_of v₂ w₂ as₁ bs (λ a b. h (values_in g a) (values_in g b))
  pair_same v₁ v₂ w₁ w₂ [] bs h e₁ e₂ u₁ u₂ k₁ k₂ = ap (λ x. pick (eqb (kind x) 4) x (wrong 1)) e₁
  pair_same v₁ v₂ w₁ w₂ (a ∷ as₁) [] h e₁ e₂ u₁ u₂ k₁ k₂ = ap (λ x. pick (eqb (kind x) 4) x (wrong 1)) e₂
  pair_same v₁ v₂ w₁ w₂ (a ∷ as₁) (b ∷ bs) h e₁ e₂ u₁ u₂ k₁ k₂ =
      ap₂ (λ x y. pick (eqb (wide a) (wide b) && eqb (high a) (high b)) (h x y) (wrong 8)) (values_same a as₁ (u₁ a (inl refl)) k₁) (values_same b bs (u₂ b (inl refl)) k₂)

-- the functions that formulas call
term_at_in : (ts : List Term) (k : ℕ) → In (term_at ts k) ts ⊎ (term_at ts k ≡ gone)
term_at_in [] k = inr refl
term_at_in (t ∷ ts) zero = inl (inl refl)
term_at_in (t ∷ ts) (suc k) = elim (term_at_in ts k) [ inl h ↦ inl (inr h) | inr e ↦ inr e ]

-- what a call is worth, from what it takes of its arguments: all their values, the first three, and three that depend on areas
abbrev shape : List Name → ℕ → List Term → List Value → (e₀ e₁ e₂ p₅ p₆ p₇ : Value) → Value
shape ns k ts vs e₀ e₁ e₂ p₅ p₆ p₇ =
    pick (leb k 3 && none_of ts) (wrong 8)
    (pick (eqb k 0) (over_all (λ xs. within (total (plus 0) xs)) vs)
    (pick (eqb k 1) (over_all (λ xs. within (plus (million * length xs))) vs)
    (pick (eqb k 2) (over_all (extreme_of false) vs)
    (pick (eqb k 3) (over_all (extreme_of true) vs)
    (pick (eqb k 4) (pick (eqb (length ts) 3) (choose e₀ e₁ e₂) (wrong 8))
    (pick (eqb k 5) (pick (eqb (length ts) 3) (pick (eqb (kind e₀) 4) e₀ p₅) (wrong 8))
    (pick (eqb k 6) (pick (eqb (length ts) 3)
    (pick (none_of (area_of ns (term_at ts 0))) (no_area e₀)
    (unless_wrong (first_wrong (e₁ ∷ e₂ ∷ [])) (pick (numeric e₁ && numeric e₂) p₆ (wrong 1)))) (wrong 8))
    (pick (eqb k 7) (pick (eqb (length ts) 3) (pick (eqb (kind e₁) 4) e₁ p₇) (wrong 8))
    (pick (eqb k 8) (pick (eqb (length ts) 1) (unless_wrong (first_wrong (e₀ ∷ [])) (num (plus (million * length (as_text e₀))))) (wrong 8))
    (pick (eqb (length ts) 1) (unless_wrong (first_wrong (e₀ ∷ [])) (pick (eqb (kind e₀) 3) (truth (not (the_truth e₀))) (wrong 1))) (wrong 8)))))))))))

module _ (f g : Look) (ns : List Name) (ev₁ ev₂ : Term → Value) where
  pub all_values_same : (ts : List Term) → ((t : Term) → In t ts → ev₁ t ≡ ev₂ t) → ((t : Term) → In t ts → Agree f g (boxes ns t)) → all_values f ns ev₁ ts ≡ all_values g ns ev₂ ts
  all_values_same [] he ha = refl
  all_values_same (t ∷ ts) he ha =
      ap₂ ◌++◌ (values_of_same f g (area_of ns t) (ev₁ t) (ev₂ t) (area_upright ns t) (area_agree ns t (ha t (inl refl))) (he t (inl refl)))
      (all_values_same ts (λ x h. he x (inr h)) (λ x h. ha x (inr h)))

module _ (f g : Look) (ns : List Name) (ev₁ ev₂ : Term → Value) (ts : List Term) (he : (t : Term) → In t ts → ev₁ t ≡ ev₂ t)
    (hg : ev₁ gone ≡ ev₂ gone) (ha : (t : Term) → In t ts → Agree f g (boxes ns t)) where
  ev_at : (k : ℕ) → ev₁ (term_at ts k) ≡ ev₂ (term_at ts k)
  ev_at k = elim (term_at_in ts k) [ inl h ↦ he (term_at ts k) h | inr e ↦ subst (λ t. ev₁ t ≡ ev₂ t) (sym e) hg ]

  agree_at : (k : ℕ) → Agree f g (area_of ns (term_at ts k))
  unfolding area_of
  agree_at k = elim (term_at_in ts k) [ inl h ↦ area_agree ns (term_at ts k) (ha (term_at ts k) h) | inr e ↦ subst (λ t. Agree f g (area_of ns t)) (sym e) (λ q z. absurd (both_ways false refl z)) ]

  look_up_same : pair_of (ev₁ (term_at ts 1)) (ev₁ (term_at ts 2)) (area_of ns (term_at ts 1)) (area_of ns (term_at ts 2)) (λ a b. place_where (equal_value (ev₁ (term_at ts 0))) (values_in f a) (values_in f b))
      ≡ pair_of (ev₂ (term_at ts 1)) (ev₂ (term_at ts 2)) (area_of ns (term_at ts 1)) (area_of ns (term_at ts 2)) (λ a b. place_where (equal_value (ev₂ (term_at ts 0))) (values_in g a) (values_in g b))
  look_up_same =
      pair_same f g (ev₁ (term_at ts 1)) (ev₂ (term_at ts 1)) (ev₁ (term_at ts 2)) (ev₂ (term_at ts 2)) (area_of ns (term_at ts 1)) (area_of ns (term_at ts 2))
      (place_where (equal_value (ev₁ (term_at ts 0)))) (ev_at 1) (ev_at 2) (area_upright ns (term_at ts 1)) (area_upright ns (term_at ts 2)) (agree_at 1) (agree_at 2)
      ∙ ap (λ (v : Value). pair_of (ev₂ (term_at ts 1)) (ev₂ (term_at ts 2)) (area_of ns (term_at ts 1)) (area_of ns (term_at ts 2)) (λ a b. place_where (equal_value v) (values_in g a) (values_in g b))) (ev_at 0)

  sum_if_same : pair_of (ev₁ (term_at ts 0)) (ev₁ (term_at ts 2)) (area_of ns (term_at ts 0)) (area_of ns (term_at ts 2)) (λ a b. sum_where (equal_value (ev₁ (term_at ts 1))) (plus 0) (values_in f a) (values_in f b))
      ≡ pair_of (ev₂ (term_at ts 0)) (ev₂ (term_at ts 2)) (area_of ns (term_at ts 0)) (area_of ns (term_at ts 2)) (λ a b. sum_where (equal_value (ev₂ (term_at ts 1))) (plus 0) (values_in g a) (values_in g b))
  sum_if_same =
      pair_same f g (ev₁ (term_at ts 0)) (ev₂ (term_at ts 0)) (ev₁ (term_at ts 2)) (ev₂ (term_at ts 2)) (area_of ns (term_at ts 0)) (area_of ns (term_at ts 2))
      (sum_where (equal_value (ev₁ (term_at ts 1))) (plus 0)) (ev_at 0) (ev_at 2) (area_upright ns (term_at ts 0)) (area_upright ns (term_at ts 2)) (agree_at 0) (agree_at 2)
      ∙ ap (λ (v : Value). pair_of (ev₂ (term_at ts 0)) (ev₂ (term_at ts 2)) (area_of ns (term_at ts 0)) (area_of ns (term_at ts 2)) (λ a b. sum_where (equal_value v) (plus 0) (values_in g a) (values_in g b))) (ev_at 1)

  place_same : in_area f (area_of ns (term_at ts 0)) (whole_of (ev₁ (term_at ts 1))) (whole_of (ev₁ (term_at ts 2)))
      ≡ in_area g (area_of ns (term_at ts 0)) (whole_of (ev₂ (term_at ts 1))) (whole_of (ev₂ (term_at ts 2)))
  place_same =
      in_area_same f g (area_of ns (term_at ts 0)) (whole_of (ev₁ (term_at ts 1))) (whole_of (ev₁ (term_at ts 2))) (area_upright ns (term_at ts 0)) (agree_at 0)
      ∙ ap₂ (λ v w. in_area g (area_of ns (term_at ts 0)) (whole_of v) (whole_of w)) (ev_at 1) (ev_at 2)

  pub called_same : (k : ℕ) → called f ns ev₁ k ts ≡ called g ns ev₂ k ts
  unfolding called
  called_same k = λ i. shape ns k ts (all_values_same f g ns ev₁ ev₂ ts he ha i) (ev_at 0 i) (ev_at 1 i) (ev_at 2 i) (look_up_same i) (place_same i) (sum_if_same i)

-- THE CONGRUENCE: two looks that agree on all that a formula refers to give it the same worth
all_agree : {f g : Look} (ns : List Name) (ts : Terms) → Agree f g (boxes_all ns ts) → (t : Term) → In t (terms_in ts) → Agree f g (boxes ns t)
unfolding boxes_all
all_agree ns no_terms h t k = absurd k
all_agree {f} {g} ns (term_and u ts) h t (inl e) = subst (λ x. Agree f g (boxes ns x)) (sym e) (agree_left (boxes ns u) (boxes_all ns ts) h)
all_agree {f} {g} ns (term_and u ts) h t (inr k) = all_agree {f = f} {g = g} ns ts (agree_right (boxes ns u) (boxes_all ns ts) h) t k

gone_same : (n : ℕ) (f g : Look) (ns : List Name) → worth n f ns gone ≡ worth n g ns gone
unfolding worth
gone_same zero f g ns = refl
gone_same (suc n) f g ns = refl

pub worth_same : (n : ℕ) (f g : Look) (ns : List Name) (t : Term) → Agree f g (boxes ns t) → worth n f ns t ≡ worth n g ns t
unfolding worth boxes area_of
worth_same zero f g ns t h = refl
worth_same (suc n) f g ns (const v) h = refl
worth_same (suc n) f g ns (cell a) h =
    at_box f g (one_box a) [] h (record { col = a.col; row = a.row })
    (let k = small_one a.col in let l = small_one a.row in box_has (one_box a) a.col a.row k.0 k.1 l.0 l.1)
worth_same (suc n) f g ns (area a b) h = lone_same f g (box a b ∷ []) (area_upright ns (area a b)) h
worth_same (suc n) f g ns (named m) h =
    ap (λ v. pick (none_of (boxes_plain (meant ns m))) (name_worth (meant ns m)) v) (lone_same f g (boxes_plain (meant ns m)) (plain_upright (meant ns m)) h)
worth_same (suc n) f g ns gone h = refl
worth_same (suc n) f g ns (opposite t) h = ap opposite_of (worth_same n f g ns t h)
worth_same (suc n) f g ns (bin k a b) h =
    ap₂ (two k) (worth_same n f g ns a (agree_left (boxes ns a) (boxes ns b) h)) (worth_same n f g ns b (agree_right (boxes ns a) (boxes ns b) h))
worth_same (suc n) f g ns (call k ts) h =
    called_same f g ns (λ t. worth n f ns t) (λ t. worth n g ns t) (terms_in ts)
    (λ t i. worth_same n f g ns t (all_agree {f = f} {g = g} ns ts h t i)) (gone_same n f g ns) (all_agree {f = f} {g = g} ns ts h) k

pub worth_local : WorthLocal
unfolding WorthLocal
worth_local = worth_same
