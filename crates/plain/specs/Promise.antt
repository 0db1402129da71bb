-- What the engine promises, and nine laws of the plain sheet. Each is a statement, a type of which a theorem function in some crate has a proof.
-- Assumes nothing.
use Rattle.std.specs.Prelude.{◌≡◌, ℕ, zero, suc, ◌+◌, ◌*◌, ◌<◌, ◌≤◌, Bool, true, false, ◌&&◌, ◌⊎◌, List, [], ◌∷◌, ◌++◌, length, nat_le}
use Rattle.plain.specs.Term.{pick, or, every, none_of, Num, Value, wrong, Ref, Term, Terms, const, cell, area, named, gone, opposite, bin, call, no_terms, term_and, add, other, times, less_num, less_value, kind}
use Rattle.plain.specs.Sheet.{Cell, Sheet, at, Place, same_place, is_in, reaches, in_circle, shown, worth_at}
use Rattle.plain.specs.Commands.{Command, set_cell, wipe, show, rows, written, name, unname, insert, remove, copy, spelled, fits, a_formula, last, Turn, turn, weight, work, inserted, removed, copied, moved_on}
use Rattle.plain.specs.Device.{Device, Store, line_at, read_line, of_line, settled, stopped}
use Rattle.plain.specs.Run.{Engine, Item, proper, Right, new_world, Steady}

abbrev pub Never : Type 0
Never = zero ≡ suc zero

unfoldable pub Said : List ℕ → Command → Type 0
Said text c = (spelled c ≡ text) × (fits c ≡ true)

-- how many lines a command may read and store: setting a cell by what then has to be worked out, before and after; showing by what's shown
unfoldable pub may_use : Sheet → Command → Turn → ℕ → Bool
may_use w (set_cell c r t) u n = nat_le n (2048 + 2048 * (work w (record { col = c; row = r }) + work u.next (record { col = c; row = r })))
may_use w (wipe b) u n = true
may_use w (show c r) u n = nat_le n 512
may_use w (rows b) u n = nat_le n (512 + 128 * length u.shows)
may_use w (written c r) u n = nat_le n 512
may_use w (name m t) u n = true
may_use w (unname m) u n = true
may_use w (insert v p k) u n = true
may_use w (remove v p k) u n = true
may_use w (copy b c r) u n = true

-- a command that is known: the plain sheet's turn, within what may be used; or no room, only if more is then to be kept than before, and than an
-- eighth of the lines hold
unfoldable pub TurnMay : ℕ → Sheet → Command → Turn → List (List ℕ) → ℕ → ℕ → Sheet → Type 0
TurnMay lines w a t ss r reply w₁ =
    ((reply ≡ t.reply) × (ss ≡ t.shows) × (w₁ ≡ t.next) × (may_use w a t r ≡ true))
    ⊎ ((reply ≡ 8) × (ss ≡ []) × (w₁ ≡ w) × (t.reply ≡ 0) × (weight w < weight t.next) × (8 * lines < weight t.next))

unfoldable pub May : (Command → Bool) → ℕ → Sheet → List ℕ → List (List ℕ) → ℕ → ℕ → Sheet → Type 0
May known lines w text ss r reply w₁ =
    ((a : Command) × Said text a × (known a ≡ true) × TurnMay lines w a (turn w a) ss r reply w₁)
    ⊎ (((a : Command) × Said text a × (known a ≡ false) × (reply ≡ 2) × (ss ≡ []) × (w₁ ≡ w))
    ⊎ (((a : Command) → Said text a → Never) × (reply ≡ 1) × (ss ≡ []) × (w₁ ≡ w)))

-- THE MAIN PROMISE: for all devices, all commands and all power failures, the engine does what the plain sheet does
unfoldable pub Whole : (Command → Bool) → Engine → Type 0
Whole known e =
    Steady e
    × ((lines : ℕ) (is : List Item) → 8192 ≤ lines → lines ≤ 8388608 → length is ≤ 4294967296 → proper false is ≡ true →
    Right (May known lines) (λ w. w) e (new_world lines) (record { cells = []; names = [] }) is)

-- 1. No two commands are spelled alike.
unfoldable pub SpelledOnce : Type 0
SpelledOnce = (a c : Command) → fits a ≡ true → fits c ≡ true → spelled a ≡ spelled c → a ≡ c

-- 2. What a cell is worth doesn't depend on how far one goes beyond as many rounds as there are cells.
unfoldable pub good_cells : List Cell → Bool
good_cells [] = true
good_cells (x ∷ xs) = none_of (at xs x.col x.row) && good_cells xs

unfoldable pub RoundsEnough : Type 0
RoundsEnough =
    (s : Sheet) (p : Place) (n : ℕ) → good_cells s.cells ≡ true → worth_at (suc (length s.cells) + n) s p ≡ shown s p

-- 3. Setting a cell changes nothing that doesn't refer to it, before or after.
unfoldable pub OthersSame : Type 0
OthersSame =
    (s : Sheet) (c r : ℕ) (t : Term) (q : Place) → good_cells s.cells ≡ true →
    let p : Place = record { col = c; row = r } in
    let s₁ : Sheet = (turn s (set_cell c r t)).next in
    same_place p q ≡ false → is_in p (reaches s q) ≡ false → is_in p (reaches s₁ q) ≡ false →
    shown s₁ q ≡ shown s q

-- 4. A cell in a circle is wrong, 5; one that refers to a circle isn't one itself for that.
unfoldable pub CirclesWrong : Type 0
CirclesWrong = (s : Sheet) (p : Place) → in_circle s p ≡ true → shown s p ≡ wrong 5

-- 5. Rows put in and taken out again at the same place leave everything as it was, if nothing left the sheet.
unfoldable pub far : Bool → ℕ → Ref → Bool
far v k a = nat_le (pick v a.row a.col + k) (last v)

unfoldable mutual
  pub near_end : Bool → ℕ → Term → Bool
  near_end v k (const x) = true
  near_end v k (cell a) = far v k a
  near_end v k (area a b) = far v k a && far v k b
  near_end v k (named n) = true
  near_end v k gone = true
  near_end v k (opposite t) = near_end v k t
  near_end v k (bin j a b) = near_end v k a && near_end v k b
  near_end v k (call j ts) = near_ends v k ts

  pub near_ends : Bool → ℕ → Terms → Bool
  near_ends v k no_terms = true
  near_ends v k (term_and t ts) = near_end v k t && near_ends v k ts

unfoldable pub InAndOut : Type 0
InAndOut =
    (s : Sheet) (v : Bool) (p k : ℕ) → 1 ≤ k →
    every (λ x. near_end v k x.term) s.cells ≡ true → every (λ x. near_end v k x.stands_for) s.names ≡ true →
    removed v p k (inserted v p k s) ≡ s

-- 6. Inserting moves what cells are worth along with them, if they don't ask for places in areas: these grow when something is put into them.
unfoldable mutual
  pub no_places : Term → Bool
  no_places (const x) = true
  no_places (cell a) = true
  no_places (area a b) = true
  no_places (named n) = true
  no_places gone = true
  no_places (opposite t) = no_places t
  no_places (bin j a b) = no_places a && no_places b
  no_places (call j ts) = or (nat_le j 4) (nat_le 8 j) && no_places_all ts

  pub no_places_all : Terms → Bool
  no_places_all no_terms = true
  no_places_all (term_and t ts) = no_places t && no_places_all ts

unfoldable pub MovedWorth : Type 0
MovedWorth =
    (s : Sheet) (v : Bool) (p k : ℕ) (x : Place) → good_cells s.cells ≡ true →
    every (λ y. near_end v k y.term) s.cells ≡ true → every (λ y. near_end v k y.stands_for) s.names ≡ true →
    every (λ y. no_places y.term) s.cells ≡ true →
    shown (inserted v p k s) (record { col = pick v x.col (moved_on p k x.col); row = pick v (moved_on p k x.row) x.row }) ≡ shown s x

-- 7. Copying onto itself changes nothing.
unfoldable pub CopiedSame : Type 0
CopiedSame =
    (t : Term) (c r : ℕ) → a_formula t ≡ true → copied c r c r t ≡ t

-- 8. Numbers: adding in either order, and what is taken away is added again; one order of all values.
unfoldable pub NumbersRight : Type 0
NumbersRight =
    (a b c : Num) → (add a b ≡ add b a) × (add (add a b) (other b) ≡ a) × (add (add a b) c ≡ add a (add b c))
    × (times a b ≡ times b a) × (or (less_num a b) (less_num b a) ≡ false → a ≡ b)

unfoldable pub ValuesOrdered : Type 0
ValuesOrdered =
    (a b : Value) → kind a < 4 → kind b < 4 → (or (less_value a b) (less_value b a) ≡ false → a ≡ b) × (less_value a b ≡ true → less_value b a ≡ false)

-- 9. What was settled stays, whatever a stop leaves of stores to other lines.
unfoldable pub SettledStays : Type 0
SettledStays =
    (d : Device) (qs : List Store) (cs : List ℕ) (k : ℕ) → length (of_line k qs) ≡ 0 →
    line_at (stopped (record { lines = (settled d k).lines; cache = (settled d k).cache ++ qs }) cs).lines k ≡ read_line d k
