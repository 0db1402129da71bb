-- what a reader gives, and that it reads what is spelled: the small readers
use Rattle.std.proofs.Common.{◌≡◌, ℕ, zero, suc, ◌^◌, ◌<◌, Bool, true, false, ◌&&◌, ltb, leb, List, [], ◌∷◌, ◌++◌, length, take, drop, sym, refl, ap, subst₂, append_assoc, arith, lit<, length-append, take-append-drop, length-take}
use Rattle.std.proofs.lemmas.List.{take_at, drop_at}
use Rattle.std.proofs.lemmas.Bool.{false≢true, and_parts, and_from, ltb-true, leb-true, le-leb, lt-ltb}
use Rattle.plain.specs.Term.{eight, with_length, all_bytes, Num, plus, minus, Value, empty, num, txt, truth, wrong, Ref, Box, limit}
use Rattle.plain.specs.Sheet.{Place}
use Rattle.plain.specs.Commands.{bit, num_spelled, value_spelled, ref_spelled, box_spelled, on_sheet, a_ref, a_box, a_name, small_num, a_const}
use Rattle.plain.specs.Read.{Got, got, nothing, then, only, one, number, read_eight, flag, read_flag, read_place, read_ref, read_box, read_counted, read_name, signed, value_tag, read_value}
use Rattle.plain.proofs.EightBytes.{there, back, eight_long, eight_bytes}

-- what is given, if anything is, satisfies P
pub data Gives {A : Type 0} (P : A → List ℕ → Type 0) : Got A → Type 0 where
  gives : {a : A} {bs : List ℕ} → P a bs → Gives P (got a bs)
  gives_none : Gives P nothing

pub gives_then : {A B : Type 0} {Q : A → List ℕ → Type 0} {P : B → List ℕ → Type 0} {g : Got A} {f : A → List ℕ → Got B} → Gives Q g → ((a : A) (bs : List ℕ) → Q a bs → Gives P (f a bs)) → Gives P (then g f)
gives_then (gives {a = a} {bs = bs} h) k = k a bs h
gives_then gives_none k = gives_none

pub gives_only : {A : Type 0} {P : A → List ℕ → Type 0} {b : Bool} {g : Got A} → (b ≡ true → Gives P g) → Gives P (only b g)
unfolding only
gives_only {b = true} h = h refl
gives_only {b = false} h = gives_none

pub given : {A : Type 0} {P : A → List ℕ → Type 0} {g : Got A} (a : A) (bs : List ℕ) → Gives P g → g ≡ got a bs → P a bs
given {P = P} a bs (gives {a = x} {bs = xs} h) e = let p : x ≡ a = cc in let q : xs ≡ bs = cc in subst₂ P p q h
given a bs gives_none e = let z : ◌≡◌ {A = ℕ} 0 1 = cc in absurd (omega arith)

pub one_gives : (bs : List ℕ) → Gives (λ b r. bs ≡ b ∷ r) (one bs)
unfolding one
one_gives [] = gives_none
one_gives (b ∷ bs) = gives refl

eight_there : (bs : List ℕ) → leb 8 (length bs) ≡ true → all_bytes (take 8 bs) ≡ true → bs ≡ eight (number (take 8 bs)) ++ drop 8 bs
eight_there bs h q =
    let l = leb-true 8 (length bs) h in let e : length (take 8 bs) ≡ 8 = rw length-take (omega arith) in
    rw (back (take 8 bs) e q) (sym (take-append-drop 8 bs))

pub eight_gives : (bs : List ℕ) → Gives (λ n r. bs ≡ eight n ++ r) (read_eight bs)
unfolding read_eight
eight_gives bs = gives_only (λ h. let p = and_parts _ _ h in gives (eight_there bs p.0 p.1))

pub eight_read : (n : ℕ) (bs : List ℕ) → n < 2 ^ 64 → read_eight (eight n ++ bs) ≡ got n bs
unfolding read_eight only
eight_read n bs h =
    let l : leb 8 (length (eight n ++ bs)) ≡ true = le-leb _ _ (rw (length-append, eight_long) (omega arith)) in
    let t : take 8 (eight n ++ bs) ≡ eight n = take_at (eight n) bs 8 (eight_long n) in
    let d : drop 8 (eight n ++ bs) ≡ bs = drop_at (eight n) bs 8 (eight_long n) in
    rw (l, t, d, eight_bytes n, there n h)

flag_gives₁ : (b : ℕ) (bs : List ℕ) → Gives (λ x r. b ∷ bs ≡ bit x ∷ r) (flag b bs)
flag_gives₁ zero bs = gives refl
flag_gives₁ (suc zero) bs = gives refl
flag_gives₁ (suc (suc n)) bs = gives_none

pub flag_gives : (bs : List ℕ) → Gives (λ x r. bs ≡ bit x ∷ r) (read_flag bs)
flag_gives bs = gives_then (one_gives bs) (λ b r h. rw h (flag_gives₁ b r))

pub flag_read : (x : Bool) (bs : List ℕ) → read_flag (bit x ∷ bs) ≡ got x bs
unfolding one only
flag_read true bs = refl
flag_read false bs = refl

abbrev pub place_spelled : Place → List ℕ
place_spelled p = p.col ∷ eight p.row

pub place_gives : (bs : List ℕ) → Gives (λ p r. (bs ≡ place_spelled p ++ r) × (on_sheet p.col p.row ≡ true)) (read_place bs)
unfolding read_place
place_gives bs = gives_then (one_gives bs) (λ c bs₁ h. gives_then (eight_gives bs₁) (λ r bs₂ k. gives_only (λ o. gives (rw (h, k), o))))

row_small : (c r : ℕ) → on_sheet c r ≡ true → r < 2 ^ 64
row_small c r o = let h = ltb-true r 65536 (and_parts (ltb c 256) (ltb r 65536) o).1 in omega arith

pub place_read : (p : Place) (bs : List ℕ) → on_sheet p.col p.row ≡ true → read_place (place_spelled p ++ bs) ≡ got p bs
unfolding read_place one only
place_read p bs o = rw (eight_read p.row bs (row_small p.col p.row o), o)

pub ref_gives : (bs : List ℕ) → Gives (λ a r. (bs ≡ ref_spelled a ++ r) × (a_ref a ≡ true)) (read_ref bs)
unfolding read_ref
ref_gives bs = gives_then (place_gives bs) (λ p bs₁ h. gives_then (flag_gives bs₁) (λ x bs₂ k. gives_then (flag_gives bs₂) (λ y bs₃ l.
    gives (rw (h.0, k, l) (simp append_assoc), h.1))))

pub ref_read : (a : Ref) (bs : List ℕ) → a_ref a ≡ true → read_ref (ref_spelled a ++ bs) ≡ got a bs
unfolding read_ref only
ref_read a bs o = rw (append_assoc, place_read (record { col = a.col; row = a.row }) (bit a.fix_col ∷ bit a.fix_row ∷ bs) o, flag_read, flag_read)

box_from : (l t r b : ℕ) → (leb l r && leb t b) ≡ true → on_sheet r b ≡ true → ((on_sheet r b && leb l r) && leb t b) ≡ true
box_from l t r b h o = let p = and_parts _ _ h in and_from _ _ (and_from _ _ o p.0) p.1

pub box_gives : (bs : List ℕ) → Gives (λ b r. (bs ≡ box_spelled b ++ r) × (a_box b ≡ true)) (read_box bs)
box_gives bs = gives_then (place_gives bs) (λ p bs₁ h. gives_then (place_gives bs₁) (λ q bs₂ k. gives_only (λ o.
    gives (rw (h.0, k.0) (simp append_assoc), box_from p.col p.row q.col q.row o k.1))))

box_corner : (l t r b : ℕ) → ((on_sheet r b && leb l r) && leb t b) ≡ true → on_sheet l t ≡ true
box_corner l t r b h =
    let p = and_parts _ _ h in let q = and_parts _ _ p.0 in let s = and_parts _ _ q.0 in
    let i = ltb-true r 256 s.0 in let j = ltb-true b 65536 s.1 in let k = leb-true l r q.1 in let m = leb-true t b p.1 in
    and_from _ _ (lt-ltb l 256 (omega arith)) (lt-ltb t 65536 (omega arith))

pub box_read : (b : Box) (bs : List ℕ) → a_box b ≡ true → read_box (box_spelled b ++ bs) ≡ got b bs
unfolding only
box_read b bs o =
    let p = and_parts _ _ o in let q = and_parts _ _ p.0 in
    rw (
      append_assoc,
      place_read (record { col = b.left; row = b.top }) (b.right ∷ eight b.bottom ++ bs) (box_corner b.left b.top b.right b.bottom o),
      place_read (record { col = b.right; row = b.bottom }) bs q.0,
      and_from _ _ q.1 p.1,
    )

pub counted_gives : (most : ℕ) (bs : List ℕ) → Gives (λ b r. (bs ≡ with_length b ++ r) × (leb (length b) most ≡ true)) (read_counted most bs)
counted_gives most bs = gives_then (eight_gives bs) (λ n r h. gives_only (λ o.
    let p = and_parts (leb n most) (leb n (length r)) o in let l = leb-true n (length r) p.1 in
    let e : length (take n r) ≡ n = rw length-take (omega arith) in
    gives (rw (h, e, append_assoc) (ap (λ x. eight n ++ x) (sym (take-append-drop n r))), rw e p.0)))

pub counted_read : (most : ℕ) (b bs : List ℕ) → most < 256 → leb (length b) most ≡ true → read_counted most (with_length b ++ bs) ≡ got b bs
unfolding only
counted_read most b bs m o =
    let h = leb-true (length b) most o in
    let l : leb (length b) (length (b ++ bs)) ≡ true = le-leb _ _ (rw length-append (omega arith)) in
    rw (append_assoc, eight_read (length b) (b ++ bs) (omega arith), o, l, take_at b bs (length b) refl, drop_at b bs (length b) refl)

pub name_gives : (bs : List ℕ) → Gives (λ n r. (bs ≡ with_length n ++ r) × (a_name n ≡ true)) (read_name bs)
name_gives bs = gives_then (counted_gives 64 bs) (λ n r h. gives_only (λ o. gives (h.0, o)))

pub name_read : (n bs : List ℕ) → a_name n ≡ true → read_name (with_length n ++ bs) ≡ got n bs
unfolding only
name_read n bs o =
    let p : leb (length n) 64 ≡ true = (and_parts _ _ (and_parts _ _ o).0).1 in
    rw (counted_read 64 n bs (lit< tt) p) (rw o)

signed_spelled : (x : Bool) (n : ℕ) → num_spelled (signed x n) ≡ bit x ∷ eight n
unfolding num_spelled
signed_spelled true n = refl
signed_spelled false n = refl

value_gives₁ : (k : ℕ) (bs : List ℕ) → Gives (λ v r. (k ∷ bs ≡ value_spelled v ++ r) × (a_const v ≡ true)) (value_tag k bs)
unfolding value_spelled a_const
value_gives₁ zero bs = gives_none
value_gives₁ (suc zero) bs = gives_then (flag_gives bs) (λ x bs₁ h. gives_then (eight_gives bs₁) (λ n bs₂ k. gives_only (λ o. gives (rw (h, k, signed_spelled), o))))
value_gives₁ (suc (suc zero)) bs = gives_then (counted_gives 255 bs) (λ b bs₁ h. gives_only (λ o. gives (rw h.0, and_from _ _ h.1 o)))
value_gives₁ (suc (suc (suc zero))) bs = gives_then (flag_gives bs) (λ x bs₁ h. gives (rw h, refl))
value_gives₁ (suc (suc (suc (suc n)))) bs = gives_none

pub value_gives : (bs : List ℕ) → Gives (λ v r. (bs ≡ value_spelled v ++ r) × (a_const v ≡ true)) (read_value bs)
value_gives bs = gives_then (one_gives bs) (λ k r h. rw h (value_gives₁ k r))

num_read : (n : Num) (bs : List ℕ) → small_num n ≡ true → value_tag 1 (num_spelled n ++ bs) ≡ got (num n) bs
unfolding num_spelled small_num only
num_read (plus n) bs o = rw (flag_read false (eight n ++ bs), eight_read n bs (let h = ltb-true n limit o in omega arith), o)
num_read (minus n) bs o = rw (flag_read true (eight n ++ bs), eight_read n bs (let h = ltb-true (suc n) limit o in omega arith), o)

pub value_read : (v : Value) (bs : List ℕ) → a_const v ≡ true → read_value (value_spelled v ++ bs) ≡ got v bs
unfolding one value_spelled a_const only
value_read empty bs o = absurd (false≢true o)
value_read (num n) bs o = num_read n bs o
value_read (txt b) bs o = let p = and_parts _ _ o in rw (counted_read 255 b bs (omega arith) p.0, p.1)
value_read (truth b) bs o = rw flag_read
value_read (wrong k) bs o = absurd (false≢true o)
