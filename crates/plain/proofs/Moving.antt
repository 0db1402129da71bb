-- Inserting moves what cells are worth along with them: the look that has, at each moved place, what was shown before, and nothing in what was put in,
-- gives each place of the new sheet what its cell is worth by that look; and there is only one such look. Assumes nothing.
use Rattle.std.proofs.Common.{◌≡◌, ℕ, zero, suc, ◌+◌, ◌-◌, ◌*◌, ◌<◌, ◌≤◌, Bool, true, false, not, ◌&&◌, eqb, ltb, leb, ◌⊎◌, List, [], ◌∷◌, ◌++◌, length, sym, refl, ap, ◌∙◌, subst, ap₂, inl, inr, arith}
use Rattle.std.proofs.lemmas.Bool.{both_ways, ltb-true, ltb-false, leb-true, leb-false, lt-ltb, le-ltb, le-leb, ne_eqb, and_parts, and_from, and_left, and_right}
use Rattle.plain.specs.Term.{pick, or, every, each, none_of, same, Num, Value, empty, num, plus, truth, wrong, Ref, Term, Terms, const, cell, area, named, gone, opposite, bin, call, no_terms, term_and, terms_in, Box, box, in_box, wide, high, million, within, kind, the_truth, as_text, two}
use Rattle.plain.specs.Sheet.{Cell, Name, Sheet, is_at, at, meant, boxes_plain, boxes, boxes_all, Place, along, place_of, uses_of, in_circle, Look, area_of, values_in, values_of, lone, term_at, choose, all_values, over_all, total, extreme_of, unless_wrong, first_wrong, called, opposite_of, name_worth, worth, deep, cells_worth, shown}
use Rattle.plain.specs.Commands.{mapped, mapped_all, moved_on, insert_ref, insert_area, inside, moved_back, inserted}
use Rattle.plain.specs.Promise.{far, near_end, near_ends, no_places, no_places_all, MovedWorth}
use Rattle.plain.specs.Laws.{In, Reach, one, more, covers, Fixed}
use Rattle.plain.proofs.Members.{Told, told, pick_yes, pick_no, pick_ap, in_each, each_in, each_append, every_in}
use Rattle.plain.proofs.WorthLocal.{Upright, area_upright}
use Rattle.plain.proofs.Reaching.{places, circle_reach}
use Rattle.plain.proofs.FixedPoint.{at_cases, uses_from, uses_parts, unwritten_circle, shown_is, fixed_shown}
use Rattle.plain.proofs.Changes.{truths_same}
use Rattle.plain.proofs.Inserting.{moved_is, not_inside, back_moved, moved_ref, insert_ref_is, insert_area_is, put_in, cell_in, name_in}
use Rattle.plain.proofs.Gaps.{leb_moved, eqb_moved, smaller_moved, larger_moved, lone_moved, solid, solid_append, over_all_solid, run_same, run_none, run_between, spot, along_run, down_run}

-- a place along the way things move; where places and boxes go
abbrev pub along_way : Bool → Place → ℕ
along_way v q = pick v q.row q.col

abbrev pub moved_place : Bool → ℕ → ℕ → Place → Place
moved_place v p k x = record { col = pick v x.col (moved_on p k x.col); row = pick v (moved_on p k x.row) x.row }

abbrev pub moved_box : Bool → ℕ → ℕ → Box → Box
moved_box v p k b = record {
  left = pick v b.left (moved_on p k b.left);
  top = pick v (moved_on p k b.top) b.top;
  right = pick v b.right (moved_on p k b.right);
  bottom = pick v (moved_on p k b.bottom) b.bottom;
}

box_moved : (v : Bool) (p k : ℕ) (a b : Ref) → box (moved_ref v p k a) (moved_ref v p k b) ≡ moved_box v p k (box a b)
box_moved true p k a b = λ i. record {
  left = (box a b).left;
  top = smaller_moved p k a.row b.row i;
  right = (box a b).right;
  bottom = larger_moved p k a.row b.row i;
}
box_moved false p k a b = λ i. record {
  left = smaller_moved p k a.col b.col i;
  top = (box a b).top;
  right = larger_moved p k a.col b.col i;
  bottom = (box a b).bottom;
}

in_box_moved : (v : Bool) (p k : ℕ) (b : Box) (q : Place) → in_box (moved_box v p k b) (moved_place v p k q).col (moved_place v p k q).row ≡ in_box b q.col q.row
in_box_moved true p k b q =
    ap₂ (λ (x y : Bool). (leb b.left q.col && leb q.col b.right) && (x && y)) (leb_moved p k b.top q.row) (leb_moved p k q.row b.bottom)
in_box_moved false p k b q =
    ap₂ (λ (x y : Bool). (x && y) && (leb b.top q.row && leb q.row b.bottom)) (leb_moved p k b.left q.col) (leb_moved p k q.col b.right)

-- g is f moved along: at a moved place what was there, and nothing in the gap
pub record Follows (v : Bool) (p k : ℕ) (f g : Look) : Type 0 where
  pub on : (q : Place) → g (moved_place v p k q) ≡ f q
  pub gap : (q : Place) → p ≤ along_way v q → along_way v q < p + k → g q ≡ empty

-- what there is in a box that moved, and in one that something was put into, is what there was
values_moved : (v : Bool) (p k : ℕ) (f g : Look) → Follows v p k f g → (b : Box) → Upright b → solid (values_in g (moved_box v p k b)) ≡ solid (values_in f b)
values_moved true p k f g w b u =
    down_run g b.left (wide b) (suc (moved_on p k b.bottom - moved_on p k b.top)) (moved_on p k b.top)
    ∙ run_between p k (λ i. solid (each f (along i b.left (wide b)))) (λ i. solid (each g (along i b.left (wide b)))) row_on row_gap b.top b.bottom u.1
    ∙ sym (down_run f b.left (wide b) (high b) b.top)
  where
    row_on : (i : ℕ) → solid (each g (along (moved_on p k i) b.left (wide b))) ≡ solid (each f (along i b.left (wide b)))
    row_on i =
        along_run g (moved_on p k i) b.left (wide b)
        ∙ run_same (λ c. solid (g (spot c (moved_on p k i)) ∷ [])) (λ c. solid (f (spot c i) ∷ [])) (λ c. ap (λ x. solid (x ∷ [])) (w.on (spot c i))) b.left (wide b)
        ∙ sym (along_run f i b.left (wide b))

    row_gap : (i : ℕ) → p ≤ i → i < p + k → solid (each g (along i b.left (wide b))) ≡ []
    row_gap i h l =
        along_run g i b.left (wide b)
        ∙ run_none (λ c. solid (g (spot c i) ∷ [])) (λ c. ap (λ x. solid (x ∷ [])) (w.gap (spot c i) h l)) b.left (wide b)
values_moved false p k f g w b u =
    down_run g (moved_on p k b.left) (suc (moved_on p k b.right - moved_on p k b.left)) (high b) b.top
    ∙ run_same (λ i. solid (each g (along i (moved_on p k b.left) (suc (moved_on p k b.right - moved_on p k b.left))))) (λ i. solid (each f (along i b.left (wide b)))) row b.top (high b)
    ∙ sym (down_run f b.left (wide b) (high b) b.top)
  where
    row : (i : ℕ) → solid (each g (along i (moved_on p k b.left) (suc (moved_on p k b.right - moved_on p k b.left)))) ≡ solid (each f (along i b.left (wide b)))
    row i =
        along_run g i (moved_on p k b.left) (suc (moved_on p k b.right - moved_on p k b.left))
        ∙ run_between p k (λ c. solid (f (spot c i) ∷ [])) (λ c. solid (g (spot c i) ∷ [])) (λ c. ap (λ x. solid (x ∷ [])) (w.on (spot c i)))
        (λ c h l. ap (λ x. solid (x ∷ [])) (w.gap (spot c i) h l)) b.left b.right u.0
        ∙ sym (along_run f i b.left (wide b))

lone_same : (v : Bool) (p k : ℕ) (b : Box) → Upright b → (eqb (wide (moved_box v p k b)) 1 && eqb (high (moved_box v p k b)) 1) ≡ (eqb (wide b) 1 && eqb (high b) 1)
lone_same true p k b u = ap (λ (x : Bool). eqb (wide b) 1 && x) (lone_moved p k b.top b.bottom u.1)
lone_same false p k b u = ap (λ (x : Bool). x && eqb (high b) 1) (lone_moved p k b.left b.right u.0)

ref_place : (v : Bool) (p k : ℕ) (a : Ref) → ◌≡◌ {A = Place} (record { col = (moved_ref v p k a).col; row = (moved_ref v p k a).row }) (moved_place v p k (record { col = a.col; row = a.row }))
ref_place true p k a = refl
ref_place false p k a = refl

-- FORMULAS: their boxes move; and what they are worth stays, by a look that follows
module _ (v : Bool) (p k : ℕ) where
  plain_in : (t : Term) → near_end v k t ≡ true → boxes_plain (put_in v p k t) ≡ each (moved_box v p k) (boxes_plain t)
  unfolding mapped near_end boxes_plain
  plain_in (const x) h = refl
  plain_in (cell a) h = ap boxes_plain (insert_ref_is v p k a h) ∙ ap (λ b. b ∷ []) (box_moved v p k a a)
  plain_in (area a b) h =
      let l = and_parts (far v k a) (far v k b) h in
      ap boxes_plain (insert_area_is v p k a b l.0 l.1) ∙ ap (λ x. x ∷ []) (box_moved v p k a b)
  plain_in (named n) h = refl
  plain_in gone h = refl
  plain_in (opposite t) h = refl
  plain_in (bin j a b) h = refl
  plain_in (call j ts) h = refl

  name_worth_in : (t : Term) → near_end v k t ≡ true → name_worth (put_in v p k t) ≡ name_worth t
  unfolding mapped near_end name_worth
  name_worth_in (const x) h = refl
  name_worth_in (cell a) h = ap name_worth (insert_ref_is v p k a h)
  name_worth_in (area a b) h = let l = and_parts (far v k a) (far v k b) h in ap name_worth (insert_area_is v p k a b l.0 l.1)
  name_worth_in (named n) h = refl
  name_worth_in gone h = refl
  name_worth_in (opposite t) h = refl
  name_worth_in (bin j a b) h = refl
  name_worth_in (call j ts) h = refl

  meant_in : (ns : List Name) (n : List ℕ) → meant (each (name_in v p k) ns) n ≡ put_in v p k (meant ns n)
  unfolding meant mapped
  meant_in [] n = refl
  meant_in (x ∷ ns) n = ap (pick (same x.name n) (put_in v p k x.stands_for)) (meant_in ns n) ∙ pick_ap (put_in v p k) (same x.name n) x.stands_for (meant ns n)

  meant_near : (ns : List Name) (n : List ℕ) → every (λ x. near_end v k x.stands_for) ns ≡ true → near_end v k (meant ns n) ≡ true
  unfolding meant near_end
  meant_near [] n h = refl
  meant_near (x ∷ ns) n h = go (same x.name n) (meant_near ns n l.1)
    where
      l : (near_end v k x.stands_for ≡ true) × (every (λ y. near_end v k y.stands_for) ns ≡ true)
      l = and_parts (near_end v k x.stands_for) (every (λ y. near_end v k y.stands_for) ns) h

      go : (b : Bool) → near_end v k (meant ns n) ≡ true → near_end v k (pick b x.stands_for (meant ns n)) ≡ true
      go true r = l.0
      go false r = r

module _ (v : Bool) (p k : ℕ) (ns : List Name) (near : every (λ x. near_end v k x.stands_for) ns ≡ true) where
  abbrev ns₁ : List Name
  ns₁ = each (name_in v p k) ns

  named_in : (n : List ℕ) → boxes_plain (meant ns₁ n) ≡ each (moved_box v p k) (boxes_plain (meant ns n))
  named_in n = ap boxes_plain (meant_in v p k ns n) ∙ plain_in v p k (meant ns n) (meant_near v p k ns n near)

  area_in : (t : Term) → near_end v k t ≡ true → area_of ns₁ (put_in v p k t) ≡ each (moved_box v p k) (area_of ns t)
  unfolding mapped near_end area_of
  area_in (const x) h = refl
  area_in (cell a) h = ap (area_of ns₁) (insert_ref_is v p k a h) ∙ ap (λ b. b ∷ []) (box_moved v p k a a)
  area_in (area a b) h =
      let l = and_parts (far v k a) (far v k b) h in
      ap (area_of ns₁) (insert_area_is v p k a b l.0 l.1) ∙ ap (λ x. x ∷ []) (box_moved v p k a b)
  area_in (named n) h = named_in n
  area_in gone h = refl
  area_in (opposite t) h = refl
  area_in (bin j a b) h = refl
  area_in (call j ts) h = refl

  mutual
    unfolding mapped mapped_all near_end near_ends boxes boxes_all

    pub boxes_in : (t : Term) → near_end v k t ≡ true → boxes ns₁ (put_in v p k t) ≡ each (moved_box v p k) (boxes ns t)
    boxes_in (const x) h = refl
    boxes_in (cell a) h = ap (boxes ns₁) (insert_ref_is v p k a h) ∙ ap (λ b. b ∷ []) (box_moved v p k a a)
    boxes_in (area a b) h =
        let l = and_parts (far v k a) (far v k b) h in
        ap (boxes ns₁) (insert_area_is v p k a b l.0 l.1) ∙ ap (λ x. x ∷ []) (box_moved v p k a b)
    boxes_in (named n) h = named_in n
    boxes_in gone h = refl
    boxes_in (opposite t) h = boxes_in t h
    boxes_in (bin j a b) h =
        let l = and_parts (near_end v k a) (near_end v k b) h in
        ap₂ ◌++◌ (boxes_in a l.0) (boxes_in b l.1) ∙ sym (each_append (moved_box v p k) (boxes ns a) (boxes ns b))
    boxes_in (call j ts) h = boxes_all_in ts h

    boxes_all_in : (ts : Terms) → near_ends v k ts ≡ true → boxes_all ns₁ (mapped_all (insert_ref v p k) (insert_area v p k) ts) ≡ each (moved_box v p k) (boxes_all ns ts)
    boxes_all_in no_terms h = refl
    boxes_all_in (term_and t ts) h =
        let l = and_parts (near_end v k t) (near_ends v k ts) h in
        ap₂ ◌++◌ (boxes_in t l.0) (boxes_all_in ts l.1) ∙ sym (each_append (moved_box v p k) (boxes ns t) (boxes_all ns ts))

-- a call but of places in areas: from whether there are arguments and how many, what goes over all their values, and the first three
abbrev front : ℕ → Bool → ℕ → (v₀ v₁ v₂ v₃ e₀ e₁ e₂ r : Value) → Value
front j none n v₀ v₁ v₂ v₃ e₀ e₁ e₂ r =
    pick (leb j 3 && none) (wrong 8) (pick (eqb j 0) v₀ (pick (eqb j 1) v₁ (pick (eqb j 2) v₂ (pick (eqb j 3) v₃ (pick (eqb j 4) (pick (eqb n 3) (choose e₀ e₁ e₂) (wrong 8)) r)))))

abbrev behind : ℕ → ℕ → Value → Value
behind j n e₀ =
    pick (eqb j 8) (pick (eqb n 1) (unless_wrong (first_wrong (e₀ ∷ [])) (num (plus (million * length (as_text e₀))))) (wrong 8))
    (pick (eqb n 1) (unless_wrong (first_wrong (e₀ ∷ [])) (pick (eqb (kind e₀) 3) (truth (not (the_truth e₀))) (wrong 1))) (wrong 8))

skipped : (j : ℕ) (x₅ x₆ x₇ r : Value) → or (leb j 4) (leb 8 j) ≡ true → pick (eqb j 5) x₅ (pick (eqb j 6) x₆ (pick (eqb j 7) x₇ r)) ≡ r
skipped j x₅ x₆ x₇ r h =
    let l = other_than j h in
    pick_no (eqb j 5) x₅ (pick (eqb j 6) x₆ (pick (eqb j 7) x₇ r)) (ne_eqb j 5 (λ e. omega arith))
    ∙ pick_no (eqb j 6) x₆ (pick (eqb j 7) x₇ r) (ne_eqb j 6 (λ e. omega arith))
    ∙ pick_no (eqb j 7) x₇ r (ne_eqb j 7 (λ e. omega arith))
  where
    other_than : (i : ℕ) → or (leb i 4) (leb 8 i) ≡ true → (i ≤ 4) ⊎ (8 ≤ i)
    other_than i = go (leb i 4) refl
      where
        go : (b : Bool) → leb i 4 ≡ b → or b (leb 8 i) ≡ true → (i ≤ 4) ⊎ (8 ≤ i)
        go true e z = inl (leb-true i 4 e)
        go false e z = inr (leb-true 8 i z)

abbrev called_as : Look → List Name → (Term → Value) → ℕ → List Term → Value
called_as look ns ev j ts =
    front j (none_of ts) (length ts)
    (over_all (λ xs. within (total (plus 0) xs)) (all_values look ns ev ts)) (over_all (λ xs. within (plus (million * length xs))) (all_values look ns ev ts))
    (over_all (extreme_of false) (all_values look ns ev ts)) (over_all (extreme_of true) (all_values look ns ev ts))
    (ev (term_at ts 0)) (ev (term_at ts 1)) (ev (term_at ts 2)) (behind j (length ts) (ev (term_at ts 0)))

called_is : (look : Look) (ns : List Name) (ev : Term → Value) (j : ℕ) (ts : List Term) → or (leb j 4) (leb 8 j) ≡ true → called look ns ev j ts ≡ called_as look ns ev j ts
unfolding called
called_is look ns ev j ts h =
    ap (front j (none_of ts) (length ts)
    (over_all (λ xs. within (total (plus 0) xs)) (all_values look ns ev ts)) (over_all (λ xs. within (plus (million * length xs))) (all_values look ns ev ts))
    (over_all (extreme_of false) (all_values look ns ev ts)) (over_all (extreme_of true) (all_values look ns ev ts))
    (ev (term_at ts 0)) (ev (term_at ts 1)) (ev (term_at ts 2)))
    (skipped j _ _ _ (behind j (length ts) (ev (term_at ts 0))) h)

module _ (v : Bool) (p k : ℕ) (f g : Look) (w : Follows v p k f g) where
  lone_in : (bs : List Box) → ((b : Box) → In b bs → Upright b) → lone g (each (moved_box v p k) bs) ≡ lone f bs
  lone_in [] u = refl
  lone_in (b ∷ bs) u = ap₂ (λ (x : Bool) y. pick x y (wrong 1)) (lone_same v p k b (u b (inl refl))) (w.on (spot b.left b.top))

  values_of_in : (bs : List Box) (x y : Value) → ((b : Box) → In b bs → Upright b) → x ≡ y → solid (values_of g (each (moved_box v p k) bs) x) ≡ solid (values_of f bs y)
  values_of_in [] x y u e = ap (λ z. solid (z ∷ [])) e
  values_of_in (b ∷ bs) x y u e = values_moved v p k f g w b (u b (inl refl))

  module _ (ns : List Name) (near : every (λ x. near_end v k x.stands_for) ns ≡ true) (ev ev₁ : Term → Value)
      (same-ev : (t : Term) → near_end v k t ≡ true → no_places t ≡ true → ev₁ (put_in v p k t) ≡ ev t) where
    abbrev terms₁ : Terms → List Term
    terms₁ ts = terms_in (mapped_all (insert_ref v p k) (insert_area v p k) ts)

    all_values_in : (ts : Terms) → near_ends v k ts ≡ true → no_places_all ts ≡ true →
        solid (all_values g (each (name_in v p k) ns) ev₁ (terms₁ ts)) ≡ solid (all_values f ns ev (terms_in ts))
    unfolding mapped_all near_ends no_places_all
    all_values_in no_terms h n = refl
    all_values_in (term_and t ts) h n =
        let h₁ = and_parts (near_end v k t) (near_ends v k ts) h in
        let n₁ = and_parts (no_places t) (no_places_all ts) n in
        solid_append (values_of g (area_of (each (name_in v p k) ns) (put_in v p k t)) (ev₁ (put_in v p k t))) (all_values g (each (name_in v p k) ns) ev₁ (terms₁ ts))
        ∙ ap₂ ◌++◌
        (ap (λ bs. solid (values_of g bs (ev₁ (put_in v p k t)))) (area_in v p k ns near t h₁.0)
        ∙ values_of_in (area_of ns t) (ev₁ (put_in v p k t)) (ev t) (area_upright ns t) (same-ev t h₁.0 n₁.0))
        (all_values_in ts h₁.1 n₁.1)
        ∙ sym (solid_append (values_of f (area_of ns t) (ev t)) (all_values f ns ev (terms_in ts)))

    term_at_in : (ts : Terms) (i : ℕ) → near_ends v k ts ≡ true → no_places_all ts ≡ true → ev₁ (term_at (terms₁ ts) i) ≡ ev (term_at (terms_in ts) i)
    unfolding mapped mapped_all near_end near_ends no_places no_places_all
    term_at_in no_terms i h n = same-ev gone refl refl
    term_at_in (term_and t ts) zero h n = same-ev t (and_parts (near_end v k t) (near_ends v k ts) h).0 (and_parts (no_places t) (no_places_all ts) n).0
    term_at_in (term_and t ts) (suc i) h n = term_at_in ts i (and_parts (near_end v k t) (near_ends v k ts) h).1 (and_parts (no_places t) (no_places_all ts) n).1

    count_in : (ts : Terms) → length (terms₁ ts) ≡ length (terms_in ts)
    unfolding mapped_all
    count_in no_terms = refl
    count_in (term_and t ts) = ap suc (count_in ts)

    none_in : (ts : Terms) → none_of (terms₁ ts) ≡ none_of (terms_in ts)
    unfolding mapped_all
    none_in no_terms = refl
    none_in (term_and t ts) = refl

    called_in : (j : ℕ) (ts : Terms) → or (leb j 4) (leb 8 j) ≡ true → near_ends v k ts ≡ true → no_places_all ts ≡ true →
        called g (each (name_in v p k) ns) ev₁ j (terms₁ ts) ≡ called f ns ev j (terms_in ts)
    called_in j ts o h n = called_is g (each (name_in v p k) ns) ev₁ j (terms₁ ts) o ∙ middle ∙ sym (called_is f ns ev j (terms_in ts) o)
      where
        over : (F : List Num → Value) → over_all F (all_values g (each (name_in v p k) ns) ev₁ (terms₁ ts)) ≡ over_all F (all_values f ns ev (terms_in ts))
        over F = over_all_solid F (all_values g (each (name_in v p k) ns) ev₁ (terms₁ ts)) (all_values f ns ev (terms_in ts)) (all_values_in ts h n)

        e : (i : ℕ) → ev₁ (term_at (terms₁ ts) i) ≡ ev (term_at (terms_in ts) i)
        e i = term_at_in ts i h n

        middle : called_as g (each (name_in v p k) ns) ev₁ j (terms₁ ts) ≡ called_as f ns ev j (terms_in ts)
        middle = λ i. front j (none_in ts i) (count_in ts i) (over (λ xs. within (total (plus 0) xs)) i) (over (λ xs. within (plus (million * length xs))) i)
            (over (extreme_of false) i) (over (extreme_of true) i) (e 0 i) (e 1 i) (e 2 i) (behind j (count_in ts i) (e 0 i))

  none_each : {A B : Type 0} (h : A → B) (xs : List A) → none_of (each h xs) ≡ none_of xs
  none_each h [] = refl
  none_each h (x ∷ xs) = refl

  pub worth_in : (ns : List Name) → every (λ x. near_end v k x.stands_for) ns ≡ true → (n : ℕ) (t : Term) → near_end v k t ≡ true → no_places t ≡ true →
      worth n g (each (name_in v p k) ns) (put_in v p k t) ≡ worth n f ns t
  unfolding worth mapped near_end no_places area_of
  worth_in ns near zero t h c = refl
  worth_in ns near (suc n) (const x) h c = refl
  worth_in ns near (suc n) (cell a) h c =
      ap (worth (suc n) g (each (name_in v p k) ns)) (insert_ref_is v p k a h) ∙ ap g (ref_place v p k a) ∙ w.on (record { col = a.col; row = a.row })
  worth_in ns near (suc n) (area a b) h c =
      let l = and_parts (far v k a) (far v k b) h in
      ap (worth (suc n) g (each (name_in v p k) ns)) (insert_area_is v p k a b l.0 l.1)
      ∙ ap (λ x. lone g (x ∷ [])) (box_moved v p k a b) ∙ lone_in (box a b ∷ []) (area_upright ns (area a b))
  worth_in ns near (suc n) (named m) h c = λ i.
      pick (bare i) (worthless i) (whole i)
    where
      bare : none_of (boxes_plain (meant (each (name_in v p k) ns) m)) ≡ none_of (boxes_plain (meant ns m))
      bare = ap none_of (named_in v p k ns near m) ∙ none_each (moved_box v p k) (boxes_plain (meant ns m))

      worthless : name_worth (meant (each (name_in v p k) ns) m) ≡ name_worth (meant ns m)
      worthless = ap name_worth (meant_in v p k ns m) ∙ name_worth_in v p k (meant ns m) (meant_near v p k ns m near)

      whole : lone g (boxes_plain (meant (each (name_in v p k) ns) m)) ≡ lone f (boxes_plain (meant ns m))
      whole = ap (lone g) (named_in v p k ns near m) ∙ lone_in (boxes_plain (meant ns m)) (area_upright ns (named m))
  worth_in ns near (suc n) gone h c = refl
  worth_in ns near (suc n) (opposite t) h c = ap opposite_of (worth_in ns near n t h c)
  worth_in ns near (suc n) (bin j a b) h c =
      let l = and_parts (near_end v k a) (near_end v k b) h in
      let d = and_parts (no_places a) (no_places b) c in
      ap₂ (two j) (worth_in ns near n a l.0 d.0) (worth_in ns near n b l.1 d.1)
  worth_in ns near (suc n) (call j ts) h c =
      let d = and_parts (or (leb j 4) (leb 8 j)) (no_places_all ts) c in
      called_in ns near (λ t. worth n f ns t) (λ t. worth n g (each (name_in v p k) ns) t) (λ t l e. worth_in ns near n t l e) j ts d.0 h d.1

-- SHEETS: what stands at a moved place is the cell that moved there; in the gap nothing stands
is_at_moved : (v : Bool) (p k : ℕ) (x : Cell) (q : Place) → is_at (moved_place v p k q).col (moved_place v p k q).row (cell_in v p k x) ≡ is_at q.col q.row x
is_at_moved true p k x q = ap (λ (b : Bool). eqb x.col q.col && b) (eqb_moved p k x.row q.row)
is_at_moved false p k x q = ap (λ (b : Bool). b && eqb x.row q.row) (eqb_moved p k x.col q.col)

at_moved : (v : Bool) (p k : ℕ) (xs : List Cell) (q : Place) → at (each (cell_in v p k) xs) (moved_place v p k q).col (moved_place v p k q).row ≡ each (cell_in v p k) (at xs q.col q.row)
unfolding at
at_moved v p k [] q = refl
at_moved v p k (x ∷ xs) q =
    ap₂ (λ (b : Bool) ys. pick b (cell_in v p k x ∷ []) ys) (is_at_moved v p k x q) (at_moved v p k xs q)
    ∙ pick_ap (each (cell_in v p k)) (is_at q.col q.row x) (x ∷ []) (at xs q.col q.row)

is_at_gap : (v : Bool) (p k : ℕ) (x : Cell) (q : Place) → p ≤ along_way v q → along_way v q < p + k → is_at q.col q.row (cell_in v p k x) ≡ false
is_at_gap true p k x q h l =
    let m = moved_is p k x.row in
    and_right (eqb x.col q.col) (eqb (moved_on p k x.row) q.row) (ne_eqb (moved_on p k x.row) q.row (λ e. omega arith))
is_at_gap false p k x q h l =
    let m = moved_is p k x.col in
    and_left (eqb (moved_on p k x.col) q.col) (eqb x.row q.row) (ne_eqb (moved_on p k x.col) q.col (λ e. omega arith))

at_gap : (v : Bool) (p k : ℕ) (xs : List Cell) (q : Place) → p ≤ along_way v q → along_way v q < p + k → at (each (cell_in v p k) xs) q.col q.row ≡ []
unfolding at
at_gap v p k [] q h l = refl
at_gap v p k (x ∷ xs) q h l = ap₂ (λ (b : Bool) ys. pick b (cell_in v p k x ∷ []) ys) (is_at_gap v p k x q h l) (at_gap v p k xs q h l)

place_moved : (v : Bool) (p k : ℕ) (x : Cell) → place_of (cell_in v p k x) ≡ moved_place v p k (place_of x)
place_moved true p k x = refl
place_moved false p k x = refl

-- back to where a place came from
abbrev back_place : Bool → ℕ → ℕ → Place → Place
back_place v p k y = record { col = pick v y.col (moved_back p k y.col); row = pick v (moved_back p k y.row) y.row }

place_back : (v : Bool) (p k : ℕ) (q : Place) → back_place v p k (moved_place v p k q) ≡ q
place_back true p k q = λ i. record { col = q.col; row = back_moved p k q.row i }
place_back false p k q = λ i. record { col = back_moved p k q.col i; row = q.row }

along_place : (v : Bool) (p k : ℕ) (q : Place) → along_way v (moved_place v p k q) ≡ moved_on p k (along_way v q)
along_place true p k q = refl
along_place false p k q = refl

-- in the gap, or moved there
gap_or : (p k n : ℕ) → inside p k n ≡ false → moved_on p k (moved_back p k n) ≡ n
gap_or p k n = go (leb p n) refl (ltb n (p + k)) refl
  where
    low : n < p → moved_on p k (moved_back p k n) ≡ n
    low h = ap (moved_on p k) (pick_yes (ltb n p) n (n - k) (lt-ltb n p h)) ∙ pick_yes (ltb n p) n (n + k) (lt-ltb n p h)

    go : (b : Bool) → leb p n ≡ b → (c : Bool) → ltb n (p + k) ≡ c → (b && c) ≡ false → moved_on p k (moved_back p k n) ≡ n
    go false e c i z = low (leb-false p n e)
    go true e true i z = absurd (both_ways true z refl)
    go true e false i z =
        let h = leb-true p n e in
        let l = ltb-false n (p + k) i in
        let m = moved_is p k (n - k) in
        ap (moved_on p k) (pick_no (ltb n p) n (n - k) (le-ltb n p h)) ∙ (omega arith)

place_on : (v : Bool) (p k : ℕ) (y : Place) → inside p k (along_way v y) ≡ false → moved_place v p k (back_place v p k y) ≡ y
place_on true p k y h = λ i. record { col = y.col; row = gap_or p k y.row h i }
place_on false p k y h = λ i. record { col = gap_or p k y.col h i; row = y.row }

covers_moved : (v : Bool) (p k : ℕ) (bs : List Box) (q : Place) → covers (each (moved_box v p k) bs) (moved_place v p k q) ≡ covers bs q
covers_moved v p k [] q = refl
covers_moved v p k (b ∷ bs) q = ap₂ or (in_box_moved v p k b q) (covers_moved v p k bs q)

at_in : (xs : List Cell) (q : Place) (x : Cell) → In x (at xs q.col q.row) → In x xs
at_in xs q x h = go (at_cases xs q.col q.row)
  where
    hit : (y : Cell) → at xs q.col q.row ≡ y ∷ [] → In y xs → In x (y ∷ []) → In x xs
    hit y e m (inl i) = subst (λ z. In z xs) (sym i) m
    hit y e m (inr i) = absurd i

    go : (at xs q.col q.row ≡ []) ⊎ ((y : Cell) × (at xs q.col q.row ≡ y ∷ []) × In y xs × (is_at q.col q.row y ≡ true)) → In x xs
    go (inl e) = absurd (subst (In x) e h)
    go (inr m) = hit m.0 m.1 m.2 (subst (In x) m.1 h)

module _ (s : Sheet) (v : Bool) (p k : ℕ) (near : every (λ y. near_end v k y.term) s.cells ≡ true) (near-names : every (λ y. near_end v k y.stands_for) s.names ≡ true) where
  abbrev t : Sheet
  t = inserted v p k s

  abbrev to : Place → Place
  to q = moved_place v p k q

  -- references move along, and there are no others
  cell_covers : (x : Cell) → In x s.cells → (q : Place) → covers (boxes t.names (cell_in v p k x).term) (to q) ≡ covers (boxes s.names x.term) q
  cell_covers x h q =
      ap (λ bs. covers bs (to q)) (boxes_in v p k s.names near-names x.term (every_in (λ y. near_end v k y.term) x s.cells near h))
      ∙ covers_moved v p k (boxes s.names x.term) q

  uses_to : (x q : Place) → In q (uses_of s x) → In (to q) (uses_of t (to x))
  uses_to x q h =
      let a = uses_parts s x q h in
      let b = each_in place_of q s.cells a.3 in
      uses_from t (to x) (to q) (cell_in v p k a.0) (subst (In (cell_in v p k a.0)) (sym (at_moved v p k s.cells x)) (in_each (cell_in v p k) a.0 (at s.cells x.col x.row) a.1))
      (cell_covers a.0 (at_in s.cells x a.0 a.1) q ∙ a.2)
      (subst (λ z. In z (places t)) (place_moved v p k b.0 ∙ ap to (sym b.2)) (in_each place_of (cell_in v p k b.0) t.cells (in_each (cell_in v p k) b.0 s.cells b.1)))

  uses_back : (x z : Place) → In z (uses_of t (to x)) → (q : Place) × (z ≡ to q) × In q (uses_of s x)
  uses_back x z h =
      let a = uses_parts t (to x) z h in
      let b = each_in (cell_in v p k) a.0 (at s.cells x.col x.row) (subst (In a.0) (at_moved v p k s.cells x) a.1) in
      let c = each_in place_of z t.cells a.3 in
      let d = each_in (cell_in v p k) c.0 s.cells c.1 in
      let q : Place = place_of d.0 in
      let e : z ≡ to q = c.2 ∙ ap place_of d.2 ∙ place_moved v p k d.0 in
      let l : covers (boxes t.names (cell_in v p k b.0).term) (to q) ≡ true = subst (λ y. covers (boxes t.names y.term) (to q) ≡ true) b.2 (subst (λ y. covers (boxes t.names a.0.term) y ≡ true) e a.2) in
      (q, e, uses_from s x q b.0 b.1 (sym (cell_covers b.0 (at_in s.cells x b.0 b.1) q) ∙ l) (in_each place_of d.0 s.cells d.1))

  reach_to : {x y : Place} → Reach s x y → Reach t (to x) (to y)
  reach_to (one {p = x} {q = y} h) = one (uses_to x y h)
  reach_to (more {p = x} {q = y} h r) = more (uses_to x y h) (reach_to r)

  reach_back : {x₁ y₁ : Place} → Reach t x₁ y₁ → (x : Place) → x₁ ≡ to x → (y : Place) × (y₁ ≡ to y) × Reach s x y
  reach_back (one {p = x₁} {q = y₁} h) x e =
      let a = uses_back x y₁ (subst (λ z. In y₁ (uses_of t z)) e h) in
      (a.0, a.1, one a.2)
  reach_back (more {p = x₁} {q = z₁} h r) x e =
      let a = uses_back x z₁ (subst (λ z. In z₁ (uses_of t z)) e h) in
      let b = reach_back r a.0 a.1 in
      (b.0, b.1, more a.2 b.2)

  to_once : (x y : Place) → to x ≡ to y → x ≡ y
  to_once x y e = sym (place_back v p k x) ∙ ap (back_place v p k) e ∙ place_back v p k y

  circle_to : (x : Place) → in_circle t (to x) ≡ in_circle s x
  circle_to x = truths_same (in_circle t (to x)) (in_circle s x)
      (λ e. let r = reach_back ((circle_reach t (to x)).0 e) x refl in (circle_reach s x).1 (subst (Reach s x) (sym (to_once x r.0 r.1)) r.2))
      (λ e. (circle_reach t (to x)).1 (reach_to ((circle_reach s x).0 e)))

  -- the look that follows what was shown
  follower : Look
  follower y = pick (inside p k (along_way v y)) empty (shown s (back_place v p k y))

  follows : Follows v p k (shown s) follower
  unfolding follower
  follows = record {
    on = λ q. pick_no (inside p k (along_way v (to q))) empty (shown s (back_place v p k (to q))) (ap (inside p k) (along_place v p k q) ∙ not_inside p k (along_way v q)) ∙ ap (shown s) (place_back v p k q);
    gap = λ q h l. pick_yes (inside p k (along_way v q)) empty (shown s (back_place v p k q))
        (and_from (leb p (along_way v q)) (ltb (along_way v q) (p + k)) (le-leb p (along_way v q) h) (lt-ltb (along_way v q) (p + k) l));
  }

  module _ (plain : every (λ y. no_places y.term) s.cells ≡ true) where
    cells_to : (xs : List Cell) → ((x : Cell) → In x xs → In x s.cells) → cells_worth follower t.names (each (cell_in v p k) xs) ≡ cells_worth (shown s) s.names xs
    cells_to [] h = refl
    cells_to (x ∷ xs) h =
        worth_in v p k (shown s) follower follows s.names near-names deep x.term (every_in (λ y. near_end v k y.term) x s.cells near (h x (inl refl)))
        (every_in (λ y. no_places y.term) x s.cells plain (h x (inl refl)))

    fixed_to : (x : Place) → follower (to x) ≡ pick (in_circle t (to x)) (wrong 5) (cells_worth follower t.names (at t.cells (to x).col (to x).row))
    fixed_to x =
        follows.on x ∙ shown_is s x
        ∙ ap₂ (λ (b : Bool) y. pick b (wrong 5) y) (sym (circle_to x))
        (sym (cells_to (at s.cells x.col x.row) (λ y h. at_in s.cells x y h)) ∙ ap (cells_worth follower t.names) (sym (at_moved v p k s.cells x)))

    fixed_gap : (y : Place) → p ≤ along_way v y → along_way v y < p + k → follower y ≡ pick (in_circle t y) (wrong 5) (cells_worth follower t.names (at t.cells y.col y.row))
    fixed_gap y h l =
        let e = at_gap v p k s.cells y h l in
        follows.gap y h l ∙ sym (pick_no (in_circle t y) (wrong 5) (cells_worth follower t.names (at t.cells y.col y.row)) (unwritten_circle t y e) ∙ ap (cells_worth follower t.names) e)

    fixed_follower : Fixed t follower
    fixed_follower y = go (told (inside p k (along_way v y)))
      where
        go : Told (inside p k (along_way v y)) → follower y ≡ pick (in_circle t y) (wrong 5) (cells_worth follower t.names (at t.cells y.col y.row))
        go (inl e) =
            let h = and_parts (leb p (along_way v y)) (ltb (along_way v y) (p + k)) e in
            fixed_gap y (leb-true p (along_way v y) h.0) (ltb-true (along_way v y) (p + k) h.1)
        go (inr e) =
            subst (λ z. follower z ≡ pick (in_circle t z) (wrong 5) (cells_worth follower t.names (at t.cells z.col z.row))) (place_on v p k y e) (fixed_to (back_place v p k y))

    pub shown_to : (x : Place) → shown t (to x) ≡ shown s x
    shown_to x = sym (fixed_shown t follower fixed_follower (to x)) ∙ follows.on x

-- MOVED WORTH
pub moved_worth : MovedWorth
unfolding MovedWorth
moved_worth s v p k x _ near near-names plain = shown_to s v p k near near-names plain x
