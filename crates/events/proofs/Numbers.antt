-- A number read byte by byte, the highest first: it fits, and how far the loop has come.
use Rattle.std.proofs.Common.{◌≡◌, ℕ, ◌+◌, ◌*◌, ◌/◌, ◌%◌, ◌^◌, ◌<◌, ◌≤◌, List, [], ◌∷◌, length, get_or, drop, take, Fits, w8, ap, arith, pow-add}
use Rattle.std.proofs.Math.Nat.{pow-le-pow_right}
use Rattle.std.proofs.lemmas.List.{drop_more, drop_all, get_or-take, length-take}
use Rattle.plain.specs.Run.{on}
use Rattle.events.specs.Entry.{from_eight, event_of}

pub pow_few : (bs : List ℕ) (k i n : ℕ) → k ≤ 8 → i < length (take k bs) → n < 256 ^ i → n < 72057594037927936
pow_few bs k i n e h l =
    let long = length-take k bs in
    let p = pow-le-pow_right {n = 256} (omega arith) {i = i} {j = 7} (omega arith) in omega arith

pub pow_more : (i n b : ℕ) → n < 256 ^ i → b < 256 → 256 * n + b < 256 ^ (i + 1)
pow_more i n b h l = rw (pow-add 256 i 1) (omega arith)

-- a byte of the first few is a byte of all
pub byte_small : (bs : List ℕ) (k i b : ℕ) → b ≡ get_or (take k bs) i 0 → i < length (take k bs) → Fits w8 (get_or bs i 0) → b < 256
byte_small bs k i b e h l = let long = length-take k bs in let g = get_or-take k bs i 0 (omega arith) in omega arith

pub from_more : (bs : List ℕ) (i n : ℕ) → i < length bs → from_eight n (drop i bs) ≡ from_eight (256 * n + get_or bs i 0) (drop (i + 1) bs)
unfolding from_eight
from_more bs i n h = rw (drop_more bs i 0 h)

pub from_all : (bs : List ℕ) (i n : ℕ) → length bs ≤ i → from_eight n (drop i bs) ≡ n
unfolding from_eight
from_all bs i n h = rw (drop_all i bs h)

-- a number of 64 bits as eight bytes, and back
abbrev pub bytes_of : ℕ → List ℕ
bytes_of n =
    (n / 72057594037927936 % 256) ∷ (n / 281474976710656 % 256) ∷ (n / 1099511627776 % 256) ∷ (n / 4294967296 % 256) ∷ (n / 16777216 % 256) ∷ (n / 65536 % 256) ∷ (n / 256 % 256) ∷ (n % 256) ∷ []

eight_back : (n : ℕ) → n < 18446744073709551616 → from_eight 0 (take 8 (bytes_of n)) ≡ n
unfolding from_eight
eight_back n h = omega arith

pub told_lines : (n : ℕ) → n < 18446744073709551616 → event_of 0 (bytes_of n) ≡ on n
unfolding event_of
told_lines n h = ap on (eight_back n h)
