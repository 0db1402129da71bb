-- Values, formulas, and what they refer to. Assumes nothing: these are definitions.
use Rattle.std.specs.Prelude.{ℕ, zero, suc, ◌+◌, ◌-◌, ◌*◌, ◌/◌, ◌%◌, Bool, true, false, not, ◌&&◌, ltb, List, [], ◌∷◌, ◌++◌, length, ◌==◌, nat_le, nat_lt}

abbrev pub pick : {A : Type 0} → Bool → A → A → A
pick true a b = a
pick false a b = b

abbrev pub or : Bool → Bool → Bool
or true b = true
or false b = b

abbrev pub every : {A : Type 0} → (A → Bool) → List A → Bool
every p [] = true
every p (x ∷ xs) = p x && every p xs

abbrev pub any : {A : Type 0} → (A → Bool) → List A → Bool
any p [] = false
any p (x ∷ xs) = or (p x) (any p xs)

abbrev pub each : {A B : Type 0} → (A → B) → List A → List B
each f [] = []
each f (x ∷ xs) = f x ∷ each f xs

abbrev pub those : {A : Type 0} → (A → Bool) → List A → List A
those p [] = []
those p (x ∷ xs) = pick (p x) (x ∷ those p xs) (those p xs)

abbrev pub flat : {A B : Type 0} → (A → List B) → List A → List B
flat f [] = []
flat f (x ∷ xs) = f x ++ flat f xs

abbrev pub added_up : {A : Type 0} → (A → ℕ) → List A → ℕ
added_up f [] = 0
added_up f (x ∷ xs) = f x + added_up f xs

abbrev pub none_of : {A : Type 0} → List A → Bool
none_of [] = true
none_of (x ∷ xs) = false

unfoldable pub same : List ℕ → List ℕ → Bool
same [] [] = true
same [] (y ∷ ys) = false
same (x ∷ xs) [] = false
same (x ∷ xs) (y ∷ ys) = x == y && same xs ys

unfoldable pub earlier : List ℕ → List ℕ → Bool
earlier [] [] = false
earlier [] (y ∷ ys) = true
earlier (x ∷ xs) [] = false
earlier (x ∷ xs) (y ∷ ys) = pick (nat_lt x y) true (x == y && earlier xs ys)

-- eight bytes, the highest first; and bytes with their count before them
unfoldable pub in_bytes : ℕ → ℕ → List ℕ → List ℕ
in_bytes zero n bs = bs
in_bytes (suc k) n bs = in_bytes k (n / 256) (n % 256 ∷ bs)

abbrev pub eight : ℕ → List ℕ
eight n = in_bytes 8 n []

abbrev pub with_length : List ℕ → List ℕ
with_length bs = eight (length bs) ++ bs

abbrev pub all_bytes : List ℕ → Bool
all_bytes bs = every (λ b. ltb b 256) bs

-- numbers are millionths; minus n is n + 1 of them below zero
pub data Num : Type 0 where
  plus : ℕ → Num
  minus : ℕ → Num

-- what a cell is worth: nothing, a number, a text, a truth, or what is wrong: 1 not of the kind that is needed, 2 a quotient by 0, 3 too large or too
-- long, 4 no such name, 5 in a circle, 6 a place that is gone, 7 not found, 8 not as many as are needed
pub data Value : Type 0 where
  empty : Value
  num : Num → Value
  txt : List ℕ → Value
  truth : Bool → Value
  wrong : ℕ → Value

-- a place that a formula refers to; when the formula is copied, what is fixed stays
pub record Ref : Type 0 where
  pub col : ℕ
  pub row : ℕ
  pub fix_col : Bool
  pub fix_row : Bool

mutual
  pub data Term : Type 0 where
    const : Value → Term
    cell : Ref → Term
    area : Ref → Ref → Term
    named : List ℕ → Term
    gone : Term
    opposite : Term → Term
    bin : ℕ → Term → Term → Term  -- 0 sum, 1 difference, 2 product, 3 quotient, 4 joined, 5 equal, 6 less, 7 at most
    call : ℕ → Terms → Term  -- 0 sum, 1 count, 2 least, 3 greatest, 4 if, 5 look up, 6 place in an area, 7 sum if, 8 length, 9 not

  pub data Terms : Type 0 where
    no_terms : Terms
    term_and : Term → Terms → Terms

abbrev pub terms_in : Terms → List Term
terms_in no_terms = []
terms_in (term_and t ts) = t ∷ terms_in ts

abbrev pub terms_of : List Term → Terms
terms_of [] = no_terms
terms_of (t ∷ ts) = term_and t (terms_of ts)

-- a stretch of cells, both ends in it
pub record Box : Type 0 where
  pub left : ℕ
  pub top : ℕ
  pub right : ℕ
  pub bottom : ℕ

abbrev pub smaller : ℕ → ℕ → ℕ
smaller a b = pick (nat_lt a b) a b

abbrev pub larger : ℕ → ℕ → ℕ
larger a b = pick (nat_lt a b) b a

abbrev pub box : Ref → Ref → Box
box a b = record { left = smaller a.col b.col; top = smaller a.row b.row; right = larger a.col b.col; bottom = larger a.row b.row }

abbrev pub in_box : Box → ℕ → ℕ → Bool
in_box b c r = (nat_le b.left c && nat_le c b.right) && (nat_le b.top r && nat_le r b.bottom)

abbrev pub wide : Box → ℕ
wide b = suc (b.right - b.left)

abbrev pub high : Box → ℕ
high b = suc (b.bottom - b.top)

-- numbers
abbrev pub million : ℕ
million = 1000000

abbrev pub limit : ℕ
limit = 4611686018427387904

abbrev pub negative : ℕ → Num
negative zero = plus 0
negative (suc n) = minus n

abbrev pub apart : ℕ → ℕ → Num
apart a b = pick (nat_le b a) (plus (a - b)) (minus (b - a - 1))

unfoldable pub add : Num → Num → Num
add (plus a) (plus b) = plus (a + b)
add (plus a) (minus b) = apart a (suc b)
add (minus a) (plus b) = apart b (suc a)
add (minus a) (minus b) = minus (suc (a + b))

unfoldable pub other : Num → Num
other (plus n) = negative n
other (minus n) = plus (suc n)

-- products and quotients are cut towards 0
unfoldable pub times : Num → Num → Num
times (plus a) (plus b) = plus (a * b / million)
times (plus a) (minus b) = negative (a * suc b / million)
times (minus a) (plus b) = negative (suc a * b / million)
times (minus a) (minus b) = plus (suc a * suc b / million)

unfoldable pub divided : Num → Num → Num
divided (plus a) (plus b) = plus (a * million / b)
divided (plus a) (minus b) = negative (a * million / suc b)
divided (minus a) (plus b) = negative (suc a * million / b)
divided (minus a) (minus b) = plus (suc a * million / suc b)

unfoldable pub less_num : Num → Num → Bool
less_num (plus a) (plus b) = nat_lt a b
less_num (plus a) (minus b) = false
less_num (minus a) (plus b) = true
less_num (minus a) (minus b) = nat_lt b a

abbrev pub is_zero : Num → Bool
is_zero (plus n) = n == 0
is_zero (minus n) = false

unfoldable pub within : Num → Value
within (plus n) = pick (nat_lt n limit) (num (plus n)) (wrong 3)
within (minus n) = pick (nat_lt (suc n) limit) (num (minus n)) (wrong 3)

-- a number as a text: digits, a point if there is something behind it, and no zeros at the end
unfoldable pub digits : ℕ → ℕ → List ℕ → List ℕ
digits zero m ds = ds
digits (suc n) m ds = pick (nat_lt m 10) ((48 + m) ∷ ds) (digits n (m / 10) ((48 + m % 10) ∷ ds))

unfoldable pub places : ℕ → ℕ → ℕ → List ℕ
places zero m d = []
places (suc n) m d = pick (m == 0) [] ((48 + m / d) ∷ places n (m % d) (d / 10))

abbrev pub unsigned : ℕ → List ℕ
unsigned n = digits 20 (n / million) [] ++ pick (n % million == 0) [] (46 ∷ places 6 (n % million) 100000)

unfoldable pub num_text : Num → List ℕ
num_text (plus n) = unsigned n
num_text (minus n) = 45 ∷ unsigned (suc n)

-- one order of all values but what is wrong: nothing, numbers, texts, truths
abbrev pub kind : Value → ℕ
kind empty = 0
kind (num n) = 1
kind (txt b) = 2
kind (truth b) = 3
kind (wrong k) = 4

abbrev pub the_num : Value → Num
the_num empty = plus 0
the_num (num n) = n
the_num (txt b) = plus 0
the_num (truth b) = plus 0
the_num (wrong k) = plus 0

abbrev pub the_txt : Value → List ℕ
the_txt empty = []
the_txt (num n) = []
the_txt (txt b) = b
the_txt (truth b) = []
the_txt (wrong k) = []

abbrev pub the_truth : Value → Bool
the_truth empty = false
the_truth (num n) = false
the_truth (txt b) = false
the_truth (truth b) = b
the_truth (wrong k) = false

unfoldable pub less_value : Value → Value → Bool
less_value a b =
    pick (nat_lt (kind a) (kind b)) true (kind a == kind b &&
    pick (kind a == 1) (less_num (the_num a) (the_num b)) (pick (kind a == 2) (earlier (the_txt a) (the_txt b)) (not (the_truth a) && the_truth b)))

abbrev pub equal_value : Value → Value → Bool
equal_value a b = not (less_value a b) && not (less_value b a)

-- the wrong one of two, the first first; or what is made of both
unfoldable pub right_both : Value → Value → Value → Value
right_both (wrong k) b v = wrong k
right_both empty b v = pick (kind b == 4) b v
right_both (num n) b v = pick (kind b == 4) b v
right_both (txt t) b v = pick (kind b == 4) b v
right_both (truth t) b v = pick (kind b == 4) b v

-- nothing is 0 where a number is needed, and no bytes where a text is
abbrev pub numeric : Value → Bool
numeric v = nat_le (kind v) 1

abbrev pub reckon : (Num → Num → Value) → Value → Value → Value
reckon f a b = right_both a b (pick (numeric a && numeric b) (f (the_num a) (the_num b)) (wrong 1))

unfoldable pub as_text : Value → List ℕ
as_text empty = []
as_text (num n) = num_text n
as_text (txt b) = b
as_text (truth b) = pick b (116 ∷ 114 ∷ 117 ∷ 101 ∷ []) (102 ∷ 97 ∷ 108 ∷ 115 ∷ 101 ∷ [])
as_text (wrong k) = []

abbrev pub joined : List ℕ → Value
joined b = pick (nat_le (length b) 255) (txt b) (wrong 3)

unfoldable pub two : ℕ → Value → Value → Value
two k a b =
    pick (k == 0) (reckon (λ x y. within (add x y)) a b)
    (pick (k == 1) (reckon (λ x y. within (add x (other y))) a b)
    (pick (k == 2) (reckon (λ x y. within (times x y)) a b)
    (pick (k == 3) (reckon (λ x y. pick (is_zero y) (wrong 2) (within (divided x y))) a b)
    (pick (k == 4) (right_both a b (joined (as_text a ++ as_text b)))
    (pick (k == 5) (right_both a b (truth (equal_value a b)))
    (pick (k == 6) (right_both a b (truth (less_value a b))) (right_both a b (truth (not (less_value b a))))))))))
