-- A sheet: cells with formulas, names, what each cell is worth. Assumes nothing: these are definitions.
use Rattle.std.specs.Prelude.{ℕ, zero, suc, ◌+◌, ◌-◌, ◌*◌, ◌/◌, ◌%◌, Bool, true, false, not, ◌&&◌, List, [], ◌∷◌, ◌++◌, length, ◌==◌, nat_eq, nat_le, nat_lt}
use Rattle.plain.specs.Term.{pick, any, each, those, flat, none_of, same, Num, plus, minus, Value, empty, num, truth, wrong, Ref, Term, Terms, const, cell, area, named, gone, opposite, bin, call, no_terms, term_and, terms_in, Box, box, in_box, wide, high, add, other, within, less_num, kind, the_num, the_truth, equal_value, numeric, two, million, as_text}

pub record Cell : Type 0 where
  pub col : ℕ
  pub row : ℕ
  pub term : Term

pub record Name : Type 0 where
  pub name : List ℕ
  pub stands_for : Term

-- cells by rising row, then column; names as they came
pub record Sheet : Type 0 where
  pub cells : List Cell
  pub names : List Name

abbrev pub is_at : ℕ → ℕ → Cell → Bool
is_at c r x = x.col == c && x.row == r

unfoldable pub at : List Cell → ℕ → ℕ → List Cell
at [] c r = []
at (x ∷ xs) c r = pick (is_at c r x) (x ∷ []) (at xs c r)

abbrev pub before : ℕ → ℕ → Cell → Bool
before c r x = pick (nat_lt r x.row) true (r == x.row && nat_lt c x.col)

unfoldable pub put_cell : Cell → List Cell → List Cell
put_cell y [] = y ∷ []
put_cell y (x ∷ xs) =
    pick (is_at y.col y.row x) (y ∷ xs) (pick (before y.col y.row x) (y ∷ x ∷ xs) (x ∷ put_cell y xs))

abbrev pub clear : ℕ → ℕ → List Cell → List Cell
clear c r xs = those (λ x. not (is_at c r x)) xs

unfoldable pub meant : List Name → List ℕ → Term
meant [] n = const (wrong 4)
meant (x ∷ xs) n = pick (same x.name n) x.stands_for (meant xs n)

abbrev pub one_box : Ref → Box
one_box a = box a a

-- what a formula refers to: names stand for a cell or an area, and for nothing with names in it
unfoldable pub boxes_plain : Term → List Box
boxes_plain (const v) = []
boxes_plain (cell a) = one_box a ∷ []
boxes_plain (area a b) = box a b ∷ []
boxes_plain (named n) = []
boxes_plain gone = []
boxes_plain (opposite t) = []
boxes_plain (bin k a b) = []
boxes_plain (call k ts) = []

unfoldable mutual
  pub boxes : List Name → Term → List Box
  boxes ns (const v) = []
  boxes ns (cell a) = one_box a ∷ []
  boxes ns (area a b) = box a b ∷ []
  boxes ns (named n) = boxes_plain (meant ns n)
  boxes ns gone = []
  boxes ns (opposite t) = boxes ns t
  boxes ns (bin k a b) = boxes ns a ++ boxes ns b
  boxes ns (call k ts) = boxes_all ns ts

  pub boxes_all : List Name → Terms → List Box
  boxes_all ns no_terms = []
  boxes_all ns (term_and t ts) = boxes ns t ++ boxes_all ns ts

-- a place, and the places of cells that it refers to
pub record Place : Type 0 where
  pub col : ℕ
  pub row : ℕ

abbrev pub same_place : Place → Place → Bool
same_place p q = p.col == q.col && p.row == q.row

abbrev pub is_in : Place → List Place → Bool
is_in p ps = any (same_place p) ps

abbrev pub place_of : Cell → Place
place_of x = record { col = x.col; row = x.row }

abbrev pub refers : Sheet → Cell → Place → Bool
refers s x p = any (λ b. in_box b p.col p.row) (boxes s.names x.term)

abbrev pub uses_at : Sheet → Cell → List Place
uses_at s x = each place_of (those (λ y. refers s x (place_of y)) s.cells)

unfoldable pub with_new : List Place → List Place → List Place
with_new [] ps = ps
with_new (q ∷ qs) ps = with_new qs (pick (is_in q ps) ps (ps ++ q ∷ []))

abbrev pub uses_of : Sheet → Place → List Place
uses_of s p = flat (uses_at s) (at s.cells p.col p.row)

-- all that a cell refers to, at any depth: with as many rounds as there are cells
unfoldable pub rounds : Sheet → ℕ → List Place → List Place
rounds s zero ps = ps
rounds s (suc n) ps = rounds s n (with_new (flat (uses_of s) ps) ps)

abbrev pub reaches : Sheet → Place → List Place
reaches s p = rounds s (length s.cells) (with_new (uses_of s p) [])

abbrev pub in_circle : Sheet → Place → Bool
in_circle s p = is_in p (reaches s p)

-- rows of an area from above, columns from the left
unfoldable pub along : ℕ → ℕ → ℕ → List Place
along r c zero = []
along r c (suc n) = record { col = c; row = r } ∷ along r (suc c) n

unfoldable pub down : ℕ → ℕ → ℕ → ℕ → List Place
down r c w zero = []
down r c w (suc n) = along r c w ++ down (suc r) c w n

abbrev pub places_in : Box → List Place
places_in b = down b.top b.left (wide b) (high b)

-- functions over values
unfoldable pub first_wrong : List Value → List Value
first_wrong [] = []
first_wrong (v ∷ vs) = pick (kind v == 4) (v ∷ []) (first_wrong vs)

abbrev pub unless_wrong : List Value → Value → Value
unless_wrong [] v = v
unless_wrong (w ∷ ws) v = w

abbrev pub numbers : List Value → List Num
numbers vs = each the_num (those (λ v. nat_eq (kind v) 1) vs)

unfoldable pub total : Num → List Num → Num
total n [] = n
total n (m ∷ ms) = total (add n m) ms

unfoldable pub extreme : Bool → Num → List Num → Num
extreme up n [] = n
extreme up n (m ∷ ms) = extreme up (pick (pick up (less_num n m) (less_num m n)) m n) ms

unfoldable pub extreme_of : Bool → List Num → Value
extreme_of up [] = num (plus 0)
extreme_of up (n ∷ ns) = num (extreme up n ns)

unfoldable pub place_where : (Value → Bool) → List Value → List Value → Value
place_where f [] ws = wrong 7
place_where f (v ∷ vs) [] = wrong 7
place_where f (v ∷ vs) (w ∷ ws) = pick (kind v == 4) v (pick (f v) w (place_where f vs ws))

unfoldable pub sum_where : (Value → Bool) → Num → List Value → List Value → Value
sum_where f n [] ws = within n
sum_where f n (v ∷ vs) [] = within n
sum_where f n (v ∷ vs) (w ∷ ws) =
    pick (kind v == 4) v (pick (f v) (pick (kind w == 4) w (sum_where f (pick (kind w == 1) (add n (the_num w)) n) vs ws)) (sum_where f n vs ws))

unfoldable pub nth_value : List Value → ℕ → Value
nth_value [] k = empty
nth_value (v ∷ vs) zero = v
nth_value (v ∷ vs) (suc k) = nth_value vs k

-- a whole number from 1 on
abbrev pub whole_num : Num → ℕ
whole_num (plus n) = pick (n % million == 0) (n / million) 0
whole_num (minus n) = 0

abbrev pub whole_of : Value → ℕ
whole_of v = pick (kind v == 1) (whole_num (the_num v)) 0

abbrev pub Look : Type 0
Look = Place → Value

-- what an argument gives: one value, or those of an area
unfoldable pub area_of : List Name → Term → List Box
area_of ns (const v) = []
area_of ns (cell a) = one_box a ∷ []
area_of ns (area a b) = box a b ∷ []
area_of ns (named n) = boxes_plain (meant ns n)
area_of ns gone = []
area_of ns (opposite t) = []
area_of ns (bin k a b) = []
area_of ns (call k ts) = []

abbrev pub values_in : Look → Box → List Value
values_in look b = each look (places_in b)

abbrev pub values_of : Look → List Box → Value → List Value
values_of look [] v = v ∷ []
values_of look (b ∷ bs) v = values_in look b

abbrev pub lone : Look → List Box → Value
lone look [] = wrong 6
lone look (b ∷ bs) = pick (wide b == 1 && high b == 1) (look (record { col = b.left; row = b.top })) (wrong 1)

abbrev pub arg : List Value → ℕ → Value
arg vs k = nth_value vs k

abbrev pub term_at : List Term → ℕ → Term
term_at [] k = gone
term_at (t ∷ ts) zero = t
term_at (t ∷ ts) (suc k) = term_at ts k

abbrev pub choose : Value → Value → Value → Value
choose c a b = pick (kind c == 4) c (pick (kind c == 3) (pick (the_truth c) a b) (wrong 1))

-- two areas, each one if there is one; otherwise what is wrong with it
abbrev pub no_area : Value → Value
no_area v = pick (kind v == 4) v (wrong 1)

abbrev pub pair_of : Value → Value → List Box → List Box → (Box → Box → Value) → Value
pair_of v w [] bs f = no_area v
pair_of v w (a ∷ as₁) [] f = no_area w
pair_of v w (a ∷ as₁) (b ∷ bs) f = pick (wide a == wide b && high a == high b) (f a b) (wrong 8)

abbrev pub in_area : Look → List Box → ℕ → ℕ → Value
in_area look [] i j = wrong 1
in_area look (b ∷ bs) i j =
    pick ((nat_le 1 i && nat_le i (high b)) && (nat_le 1 j && nat_le j (wide b))) (look (record { col = b.left + (j - 1); row = b.top + (i - 1) })) (wrong 7)

-- all values of all arguments, in order; what is wrong first
abbrev pub all_values : Look → List Name → (Term → Value) → List Term → List Value
all_values look ns ev ts = flat (λ t. values_of look (area_of ns t) (ev t)) ts

abbrev pub over_all : (List Num → Value) → List Value → Value
over_all f vs = unless_wrong (first_wrong vs) (f (numbers vs))

unfoldable pub called : Look → List Name → (Term → Value) → ℕ → List Term → Value
called look ns ev k ts =
    pick (nat_le k 3 && none_of ts) (wrong 8)
    (pick (k == 0) (over_all (λ xs. within (total (plus 0) xs)) (all_values look ns ev ts))
    (pick (k == 1) (over_all (λ xs. within (plus (million * length xs))) (all_values look ns ev ts))
    (pick (k == 2) (over_all (extreme_of false) (all_values look ns ev ts))
    (pick (k == 3) (over_all (extreme_of true) (all_values look ns ev ts))
    (pick (k == 4) (pick (length ts == 3) (choose (ev (term_at ts 0)) (ev (term_at ts 1)) (ev (term_at ts 2))) (wrong 8))
    (pick (k == 5) (pick (length ts == 3)
    (pick (kind (ev (term_at ts 0)) == 4) (ev (term_at ts 0))
    (pair_of (ev (term_at ts 1)) (ev (term_at ts 2)) (area_of ns (term_at ts 1)) (area_of ns (term_at ts 2)) (λ a b. place_where (equal_value (ev (term_at ts 0))) (values_in look a) (values_in look b)))) (wrong 8))
    (pick (k == 6) (pick (length ts == 3)
    (pick (none_of (area_of ns (term_at ts 0))) (no_area (ev (term_at ts 0)))
    (unless_wrong (first_wrong (ev (term_at ts 1) ∷ ev (term_at ts 2) ∷ []))
    (pick (numeric (ev (term_at ts 1)) && numeric (ev (term_at ts 2))) (in_area look (area_of ns (term_at ts 0)) (whole_of (ev (term_at ts 1))) (whole_of (ev (term_at ts 2)))) (wrong 1)))) (wrong 8))
    (pick (k == 7) (pick (length ts == 3)
    (pick (kind (ev (term_at ts 1)) == 4) (ev (term_at ts 1))
    (pair_of (ev (term_at ts 0)) (ev (term_at ts 2)) (area_of ns (term_at ts 0)) (area_of ns (term_at ts 2)) (λ a b. sum_where (equal_value (ev (term_at ts 1))) (plus 0) (values_in look a) (values_in look b)))) (wrong 8))
    (pick (k == 8) (pick (length ts == 1) (unless_wrong (first_wrong (ev (term_at ts 0) ∷ [])) (num (plus (million * length (as_text (ev (term_at ts 0))))))) (wrong 8))
    (pick (length ts == 1) (unless_wrong (first_wrong (ev (term_at ts 0) ∷ [])) (pick (kind (ev (term_at ts 0)) == 3) (truth (not (the_truth (ev (term_at ts 0))))) (wrong 1))) (wrong 8)))))))))))

abbrev pub opposite_of : Value → Value
opposite_of v = pick (kind v == 4) v (pick (numeric v) (within (other (the_num v))) (wrong 1))

-- what a name is worth that stands for no place: no such name, or gone. Names stand for nothing else
unfoldable pub name_worth : Term → Value
name_worth (const v) = v
name_worth (cell a) = wrong 6
name_worth (area a b) = wrong 6
name_worth (named n) = wrong 6
name_worth gone = wrong 6
name_worth (opposite t) = wrong 6
name_worth (bin k a b) = wrong 6
name_worth (call k ts) = wrong 6

-- what a formula is worth; the first number bounds how deep it goes, and formulas are no deeper than that
unfoldable pub worth : ℕ → Look → List Name → Term → Value
worth zero look ns t = wrong 3
worth (suc n) look ns (const v) = v
worth (suc n) look ns (cell a) = look (record { col = a.col; row = a.row })
worth (suc n) look ns (area a b) = lone look (box a b ∷ [])
worth (suc n) look ns (named m) = pick (none_of (boxes_plain (meant ns m))) (name_worth (meant ns m)) (lone look (boxes_plain (meant ns m)))
worth (suc n) look ns gone = wrong 6
worth (suc n) look ns (opposite t) = opposite_of (worth n look ns t)
worth (suc n) look ns (bin k a b) = two k (worth n look ns a) (worth n look ns b)
worth (suc n) look ns (call k ts) = called look ns (λ t. worth n look ns t) k (terms_in ts)

abbrev pub deep : ℕ
deep = 64

abbrev pub cells_worth : Look → List Name → List Cell → Value
cells_worth look ns [] = empty
cells_worth look ns (x ∷ xs) = worth deep look ns x.term

-- what a place is worth: with as many rounds as there are cells and one
unfoldable pub worth_at : ℕ → Sheet → Place → Value
worth_at zero s p = wrong 5
worth_at (suc n) s p = pick (in_circle s p) (wrong 5) (cells_worth (λ q. worth_at n s q) s.names (at s.cells p.col p.row))

abbrev pub shown : Sheet → Place → Value
shown s p = worth_at (suc (length s.cells)) s p
