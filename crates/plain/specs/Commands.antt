-- Commands, how they are spelled as bytes, and the plain sheet: what each command answers and leaves. Assumes nothing: these are definitions.
use Rattle.std.specs.Prelude.{ℕ, suc, ◌+◌, ◌-◌, ◌*◌, Bool, true, false, not, ◌&&◌, ltb, List, [], ◌∷◌, ◌++◌, length, ◌==◌, nat_le, nat_lt}
use Rattle.plain.specs.Term.{pick, or, every, any, each, those, added_up, same, eight, with_length, all_bytes, Num, plus, minus, Value, empty, num, txt, truth, wrong, Ref, Term, Terms, const, cell, area, named, gone, opposite, bin, call, no_terms, term_and, Box, in_box, wide, high, limit, smaller, larger}
use Rattle.plain.specs.Sheet.{Cell, Name, Sheet, at, put_cell, boxes, Place, same_place, is_in, place_of, uses_at, reaches, places_in, shown}

pub data Command : Type 0 where
  set_cell : ℕ → ℕ → Term → Command  -- column, row
  wipe : Box → Command
  show : ℕ → ℕ → Command
  rows : Box → Command
  written : ℕ → ℕ → Command
  name : List ℕ → Term → Command  -- a cell or an area
  unname : List ℕ → Command
  insert : Bool → ℕ → ℕ → Command  -- rows or else columns, where, how many
  remove : Bool → ℕ → ℕ → Command
  copy : Box → ℕ → ℕ → Command

abbrev pub bit : Bool → ℕ
bit true = 1
bit false = 0

unfoldable pub num_spelled : Num → List ℕ
num_spelled (plus n) = 0 ∷ eight n
num_spelled (minus n) = 1 ∷ eight n

unfoldable pub value_spelled : Value → List ℕ
value_spelled empty = 0 ∷ []
value_spelled (num n) = 1 ∷ num_spelled n
value_spelled (txt b) = 2 ∷ with_length b
value_spelled (truth b) = 3 ∷ bit b ∷ []
value_spelled (wrong k) = 4 ∷ k ∷ []

abbrev pub ref_spelled : Ref → List ℕ
ref_spelled a = a.col ∷ eight a.row ++ bit a.fix_col ∷ bit a.fix_row ∷ []

abbrev pub box_spelled : Box → List ℕ
box_spelled b = b.left ∷ eight b.top ++ b.right ∷ eight b.bottom

unfoldable pub count_terms : Terms → ℕ
count_terms no_terms = 0
count_terms (term_and t ts) = suc (count_terms ts)

unfoldable mutual
  pub term_spelled : Term → List ℕ
  term_spelled (const v) = 0 ∷ value_spelled v
  term_spelled (cell a) = 1 ∷ ref_spelled a
  term_spelled (area a b) = 2 ∷ ref_spelled a ++ ref_spelled b
  term_spelled (named n) = 3 ∷ with_length n
  term_spelled gone = 4 ∷ []
  term_spelled (opposite t) = 5 ∷ term_spelled t
  term_spelled (bin k a b) = 6 ∷ k ∷ term_spelled a ++ term_spelled b
  term_spelled (call k ts) = 7 ∷ k ∷ count_terms ts ∷ terms_spelled ts

  pub terms_spelled : Terms → List ℕ
  terms_spelled no_terms = []
  terms_spelled (term_and t ts) = term_spelled t ++ terms_spelled ts

unfoldable pub spelled : Command → List ℕ
spelled (set_cell c r t) = 1 ∷ c ∷ eight r ++ term_spelled t
spelled (wipe b) = 2 ∷ box_spelled b
spelled (show c r) = 3 ∷ c ∷ eight r
spelled (rows b) = 4 ∷ box_spelled b
spelled (written c r) = 5 ∷ c ∷ eight r
spelled (name n t) = 6 ∷ with_length n ++ term_spelled t
spelled (unname n) = 7 ∷ with_length n
spelled (insert v p k) = 8 ∷ bit v ∷ eight p ++ eight k
spelled (remove v p k) = 9 ∷ bit v ∷ eight p ++ eight k
spelled (copy b c r) = 10 ∷ box_spelled b ++ c ∷ eight r

-- 256 columns, 65,536 rows
abbrev pub on_sheet : ℕ → ℕ → Bool
on_sheet c r = nat_lt c 256 && nat_lt r 65536

abbrev pub a_ref : Ref → Bool
a_ref a = on_sheet a.col a.row

abbrev pub a_box : Box → Bool
a_box b = (on_sheet b.right b.bottom && nat_le b.left b.right) && nat_le b.top b.bottom

abbrev pub a_name : List ℕ → Bool
a_name n = (nat_le 1 (length n) && nat_le (length n) 64) && every (λ c. or (nat_le 97 c && nat_le c 122) (or (nat_le 65 c && nat_le c 90) (or (nat_le 48 c && nat_le c 57) (c == 95)))) n

unfoldable pub small_num : Num → Bool
small_num (plus n) = nat_lt n limit
small_num (minus n) = nat_lt (suc n) limit

unfoldable pub a_const : Value → Bool
a_const empty = false
a_const (num n) = small_num n
a_const (txt b) = nat_le (length b) 255 && all_bytes b
a_const (truth b) = true
a_const (wrong k) = false

unfoldable mutual
  pub a_term : Term → Bool
  a_term (const v) = a_const v
  a_term (cell a) = a_ref a
  a_term (area a b) = a_ref a && a_ref b
  a_term (named n) = a_name n
  a_term gone = true
  a_term (opposite t) = a_term t
  a_term (bin k a b) = nat_lt k 8 && (a_term a && a_term b)
  a_term (call k ts) = nat_lt k 10 && (nat_le (count_terms ts) 16 && all_terms ts)

  pub all_terms : Terms → Bool
  all_terms no_terms = true
  all_terms (term_and t ts) = a_term t && all_terms ts

unfoldable mutual
  pub depth : Term → ℕ
  depth (const v) = 1
  depth (cell a) = 1
  depth (area a b) = 1
  depth (named n) = 1
  depth gone = 1
  depth (opposite t) = suc (depth t)
  depth (bin k a b) = suc (larger (depth a) (depth b))
  depth (call k ts) = suc (depth_all ts)

  pub depth_all : Terms → ℕ
  depth_all no_terms = 0
  depth_all (term_and t ts) = larger (depth t) (depth_all ts)

unfoldable pub a_target : Term → Bool
a_target (const v) = false
a_target (cell a) = a_ref a
a_target (area a b) = a_ref a && a_ref b
a_target (named n) = false
a_target gone = false
a_target (opposite t) = false
a_target (bin k a b) = false
a_target (call k ts) = false

-- formulas are at most 32 deep and 1,024 bytes long
abbrev pub a_formula : Term → Bool
a_formula t = (a_term t && nat_le (depth t) 32) && nat_le (length (term_spelled t)) 1024

abbrev pub places_of : Box → ℕ
places_of b = wide b * high b

unfoldable pub fits : Command → Bool
fits (set_cell c r t) = on_sheet c r && a_formula t
fits (wipe b) = a_box b
fits (show c r) = on_sheet c r
fits (rows b) = a_box b && nat_le (places_of b) 4096
fits (written c r) = on_sheet c r
fits (name n t) = a_name n && a_target t
fits (unname n) = a_name n
fits (insert v p k) = (nat_lt p (pick v 65536 256) && nat_le 1 k) && nat_le k (pick v 65536 256)
fits (remove v p k) = (nat_lt p (pick v 65536 256) && nat_le 1 k) && nat_le k (pick v 65536 256)
fits (copy b c r) = a_box b && on_sheet c r

-- THE CORE: wipe, show, rows, written, and setting formulas of constants, single cells, operators and "if". Later releases widen it until everything is known.
unfoldable mutual
  pub core_term : Term → Bool
  core_term (const v) = true
  core_term (cell a) = true
  core_term (area a b) = false
  core_term (named n) = false
  core_term gone = false
  core_term (opposite t) = core_term t
  core_term (bin k a b) = core_term a && core_term b
  core_term (call k ts) = k == 4 && core_terms ts

  pub core_terms : Terms → Bool
  core_terms no_terms = true
  core_terms (term_and t ts) = core_term t && core_terms ts

unfoldable pub core : Command → Bool
core (set_cell c r t) = core_term t
core (wipe b) = true
core (show c r) = true
core (rows b) = true
core (written c r) = true
core (name n t) = false
core (unname n) = false
core (insert v p k) = false
core (remove v p k) = false
core (copy b c r) = false

abbrev pub everything : Command → Bool
everything c = true

-- a formula with its places changed, each by itself and areas by both ends
unfoldable mutual
  pub mapped : (Ref → Term) → (Ref → Ref → Term) → Term → Term
  mapped f g (const v) = const v
  mapped f g (cell a) = f a
  mapped f g (area a b) = g a b
  mapped f g (named n) = named n
  mapped f g gone = gone
  mapped f g (opposite t) = opposite (mapped f g t)
  mapped f g (bin k a b) = bin k (mapped f g a) (mapped f g b)
  mapped f g (call k ts) = call k (mapped_all f g ts)

  pub mapped_all : (Ref → Term) → (Ref → Ref → Term) → Terms → Terms
  mapped_all f g no_terms = no_terms
  mapped_all f g (term_and t ts) = term_and (mapped f g t) (mapped_all f g ts)

-- along rows (true) or columns
abbrev pub coord : Bool → Ref → ℕ
coord v a = pick v a.row a.col

abbrev pub put_along : Bool → Ref → ℕ → Ref
put_along v a n = record { col = pick v a.col n; row = pick v n a.row; fix_col = a.fix_col; fix_row = a.fix_row }

abbrev pub last : Bool → ℕ
last v = pick v 65535 255

-- inserting: what stands there or behind moves on; a place that leaves the sheet is gone, an area is cut at its end
abbrev pub moved_on : ℕ → ℕ → ℕ → ℕ
moved_on p k n = pick (nat_lt n p) n (n + k)

abbrev pub insert_ref : Bool → ℕ → ℕ → Ref → Term
insert_ref v p k a = pick (nat_le (moved_on p k (coord v a)) (last v)) (cell (put_along v a (moved_on p k (coord v a)))) gone

abbrev pub insert_area : Bool → ℕ → ℕ → Ref → Ref → Term
insert_area v p k a b =
    pick (nat_le (smaller (moved_on p k (coord v a)) (moved_on p k (coord v b))) (last v))
    (area (put_along v a (smaller (last v) (moved_on p k (coord v a)))) (put_along v b (smaller (last v) (moved_on p k (coord v b))))) gone

-- removing: what stood there is gone, what stands behind moves back; of an area what is left
abbrev pub inside : ℕ → ℕ → ℕ → Bool
inside p k n = nat_le p n && nat_lt n (p + k)

abbrev pub moved_back : ℕ → ℕ → ℕ → ℕ
moved_back p k n = pick (nat_lt n p) n (n - k)

abbrev pub remove_ref : Bool → ℕ → ℕ → Ref → Term
remove_ref v p k a = pick (inside p k (coord v a)) gone (cell (put_along v a (moved_back p k (coord v a))))

-- the lower end goes to where removing began, the higher one to before it
abbrev pub low_end : ℕ → ℕ → ℕ → ℕ
low_end p k n = pick (inside p k n) p (moved_back p k n)

abbrev pub high_end : ℕ → ℕ → ℕ → ℕ
high_end p k n = pick (inside p k n) (p - 1) (moved_back p k n)

abbrev pub remove_area : Bool → ℕ → ℕ → Ref → Ref → Term
remove_area v p k a b =
    pick (inside p k (coord v a) && inside p k (coord v b)) gone
    (pick (nat_le (coord v a) (coord v b))
    (area (put_along v a (low_end p k (coord v a))) (put_along v b (high_end p k (coord v b))))
    (area (put_along v a (high_end p k (coord v a))) (put_along v b (low_end p k (coord v b)))))

-- copying: what isn't fixed moves with the cell; c and r are where it goes to, c₀ and r₀ where it came from
abbrev pub shifted : ℕ → ℕ → ℕ → Bool → ℕ → List ℕ
shifted from to top fix n = pick fix (n ∷ []) (pick (nat_le from (n + to) && nat_lt (n + to - from) top) ((n + to - from) ∷ []) [])

unfoldable pub ref_from : List ℕ → List ℕ → Ref → List Ref
ref_from [] rs a = []
ref_from (c ∷ cs) [] a = []
ref_from (c ∷ cs) (r ∷ rs) a = record { col = c; row = r; fix_col = a.fix_col; fix_row = a.fix_row } ∷ []

abbrev pub copy_ref : ℕ → ℕ → ℕ → ℕ → Ref → List Ref
copy_ref c₀ r₀ c r a = ref_from (shifted c₀ c 256 a.fix_col a.col) (shifted r₀ r 65536 a.fix_row a.row) a

abbrev pub cell_if : List Ref → Term
cell_if [] = gone
cell_if (a ∷ as₁) = cell a

abbrev pub area_if : List Ref → List Ref → Term
area_if [] bs = gone
area_if (a ∷ as₁) [] = gone
area_if (a ∷ as₁) (b ∷ bs) = area a b

abbrev pub copied : ℕ → ℕ → ℕ → ℕ → Term → Term
copied c₀ r₀ c r t = mapped (λ a. cell_if (copy_ref c₀ r₀ c r a)) (λ a b. area_if (copy_ref c₀ r₀ c r a) (copy_ref c₀ r₀ c r b)) t

pub record Turn : Type 0 where
  pub reply : ℕ
  pub shows : List (List ℕ)
  pub next : Sheet

abbrev pub no : ℕ → Sheet → Turn
no k w = record { reply = k; shows = []; next = w }

abbrev pub yes : List (List ℕ) → Sheet → Turn
yes ss w = record { reply = 0; shows = ss; next = w }

abbrev pub with_cells : Sheet → List Cell → Sheet
with_cells w xs = record { cells = xs; names = w.names }

abbrev pub value_row : Sheet → Place → List ℕ
value_row w p = value_spelled (shown w p)

abbrev pub has_name : Sheet → List ℕ → Bool
has_name w n = any (λ x. same x.name n) w.names

unfoldable pub set_name : List ℕ → Term → List Name → List Name
set_name n t [] = record { name = n; stands_for = t } ∷ []
set_name n t (x ∷ xs) = pick (same x.name n) (record { name = n; stands_for = t } ∷ xs) (x ∷ set_name n t xs)

abbrev pub cell_along : Bool → Cell → ℕ
cell_along v x = pick v x.row x.col

abbrev pub moved_cell : Bool → ℕ → Term → Cell → Cell
moved_cell v n t x = record { col = pick v x.col n; row = pick v n x.row; term = t }

abbrev pub inserted : Bool → ℕ → ℕ → Sheet → Sheet
inserted v p k w = record {
  cells = each (λ x. moved_cell v (moved_on p k (cell_along v x)) (mapped (insert_ref v p k) (insert_area v p k) x.term) x) w.cells;
  names = each (λ x. record { name = x.name; stands_for = mapped (insert_ref v p k) (insert_area v p k) x.stands_for }) w.names;
}

abbrev pub removed : Bool → ℕ → ℕ → Sheet → Sheet
removed v p k w = record {
  cells = each (λ x. moved_cell v (moved_back p k (cell_along v x)) (mapped (remove_ref v p k) (remove_area v p k) x.term) x)
      (those (λ x. not (inside p k (cell_along v x))) w.cells);
  names = each (λ x. record { name = x.name; stands_for = mapped (remove_ref v p k) (remove_area v p k) x.stands_for }) w.names;
}

unfoldable pub put_cells : List Cell → List Cell → List Cell
put_cells [] ys = ys
put_cells (x ∷ xs) ys = put_cells xs (put_cell x ys)

abbrev pub target : Box → ℕ → ℕ → Box
target b c r = record { left = c; top = r; right = c + (b.right - b.left); bottom = r + (b.bottom - b.top) }

abbrev pub copied_cell : Box → ℕ → ℕ → Cell → Cell
copied_cell b c r x =
    record { col = c + (x.col - b.left); row = r + (x.row - b.top); term = copied x.col x.row (c + (x.col - b.left)) (r + (x.row - b.top)) x.term }

unfoldable pub turn : Sheet → Command → Turn
turn w (set_cell c r t) = yes [] (with_cells w (put_cell (record { col = c; row = r; term = t }) w.cells))
turn w (wipe b) = yes [] (with_cells w (those (λ x. not (in_box b x.col x.row)) w.cells))
turn w (show c r) = yes (value_row w (record { col = c; row = r }) ∷ []) w
turn w (rows b) = yes (each (value_row w) (places_in b)) w
turn w (written c r) = yes (each (λ x. term_spelled x.term) (at w.cells c r)) w
turn w (name n t) =
    pick (has_name w n) (yes [] (record { cells = w.cells; names = set_name n t w.names }))
    (pick (nat_le 256 (length w.names)) (no 7 w) (yes [] (record { cells = w.cells; names = set_name n t w.names })))
turn w (unname n) = pick (has_name w n) (yes [] (record { cells = w.cells; names = those (λ x. not (same x.name n)) w.names })) (no 3 w)
turn w (insert v p k) = pick (any (λ x. ltb (last v) (moved_on p k (cell_along v x))) w.cells) (no 6 w) (yes [] (inserted v p k w))
turn w (remove v p k) = yes [] (removed v p k w)
turn w (copy b c r) =
    pick (on_sheet (target b c r).right (target b c r).bottom)
    (yes [] (with_cells w (put_cells (each (copied_cell b c r) (those (λ x. in_box b x.col x.row) w.cells))
    (those (λ x. not (in_box (target b c r) x.col x.row)) w.cells))))
    (no 6 w)

-- what there is to keep, in bytes
abbrev pub weight : Sheet → ℕ
weight w = added_up (λ x. 512 + length (term_spelled x.term)) w.cells + added_up (λ x. 128 + length x.name) w.names

-- what has to be worked out when a place is changed: its cell, and all that refer to it at any depth; with all that these refer to
abbrev pub one_work : Sheet → Cell → ℕ
one_work s x = 1 + length (boxes s.names x.term) + length (uses_at s x)

abbrev pub work : Sheet → Place → ℕ
work s p = added_up (one_work s) (those (λ x. or (same_place p (place_of x)) (is_in p (reaches s (place_of x)))) s.cells)
