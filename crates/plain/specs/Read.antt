-- Reading: which bytes are a formula or a command, as a reader on lists; and that it undoes the spelling. Assumes nothing: these are definitions.
use Rattle.std.specs.Prelude.{◌≡◌, ℕ, zero, suc, ◌+◌, ◌*◌, Bool, true, false, ◌&&◌, ◌⊎◌, List, [], ◌∷◌, length, take, drop, Some, None, Option, nat_le, nat_lt}
use Rattle.plain.specs.Term.{pick, all_bytes, Num, plus, minus, Value, num, txt, truth, Ref, Term, Terms, const, cell, area, named, gone, opposite, bin, call, no_terms, term_and, Box}
use Rattle.plain.specs.Sheet.{Place}
use Rattle.plain.specs.Commands.{Command, set_cell, wipe, show, rows, written, name, unname, insert, remove, copy, on_sheet, a_name, small_num, places_of}
use Rattle.plain.specs.Promise.{Said, Never}

-- what is read at the beginning of a text, and the rest of it; or nothing
pub data Got (A : Type 0) : Type 0 where
  got : A → List ℕ → Got A
  nothing : Got A

abbrev pub then : {A B : Type 0} → Got A → (A → List ℕ → Got B) → Got B
then (got a bs) f = f a bs
then nothing f = nothing

unfoldable pub only : {A : Type 0} → Bool → Got A → Got A
only true g = g
only false g = nothing

unfoldable pub one : List ℕ → Got ℕ
one [] = nothing
one (b ∷ bs) = got b bs

unfoldable pub number_after : ℕ → List ℕ → ℕ
number_after n [] = n
number_after n (b ∷ bs) = number_after (n * 256 + b) bs

abbrev pub number : List ℕ → ℕ
number bs = number_after 0 bs

unfoldable pub read_eight : List ℕ → Got ℕ
read_eight bs = only (nat_le 8 (length bs) && all_bytes (take 8 bs)) (got (number (take 8 bs)) (drop 8 bs))

abbrev pub flag : ℕ → List ℕ → Got Bool
flag zero bs = got false bs
flag (suc zero) bs = got true bs
flag (suc (suc n)) bs = nothing

abbrev pub read_flag : List ℕ → Got Bool
read_flag bs = then (one bs) flag

unfoldable pub read_place : List ℕ → Got Place
read_place bs = then (one bs) (λ c bs₁. then (read_eight bs₁) (λ r bs₂. only (on_sheet c r) (got (record { col = c; row = r }) bs₂)))

unfoldable pub read_ref : List ℕ → Got Ref
read_ref bs = then (read_place bs) (λ p bs₁. then (read_flag bs₁) (λ x bs₂. then (read_flag bs₂) (λ y bs₃. got (record { col = p.col; row = p.row; fix_col = x; fix_row = y }) bs₃)))

abbrev pub read_box : List ℕ → Got Box
read_box bs = then (read_place bs) (λ p bs₁. then (read_place bs₁) (λ q bs₂.
    only (nat_le p.col q.col && nat_le p.row q.row) (got (record { left = p.col; top = p.row; right = q.col; bottom = q.row }) bs₂)))

-- bytes with their count before them, at most so many
abbrev pub read_counted : ℕ → List ℕ → Got (List ℕ)
read_counted most bs = then (read_eight bs) (λ n bs₁. only (nat_le n most && nat_le n (length bs₁)) (got (take n bs₁) (drop n bs₁)))

abbrev pub read_name : List ℕ → Got (List ℕ)
read_name bs = then (read_counted 64 bs) (λ n bs₁. only (a_name n) (got n bs₁))

abbrev pub signed : Bool → ℕ → Num
signed true n = minus n
signed false n = plus n

abbrev pub value_tag : ℕ → List ℕ → Got Value
value_tag zero bs = nothing
value_tag (suc zero) bs = then (read_flag bs) (λ x bs₁. then (read_eight bs₁) (λ n bs₂. only (small_num (signed x n)) (got (num (signed x n)) bs₂)))
value_tag (suc (suc zero)) bs = then (read_counted 255 bs) (λ b bs₁. only (all_bytes b) (got (txt b) bs₁))
value_tag (suc (suc (suc zero))) bs = then (read_flag bs) (λ x bs₁. got (truth x) bs₁)
value_tag (suc (suc (suc (suc n)))) bs = nothing

abbrev pub read_value : List ℕ → Got Value
read_value bs = then (one bs) value_tag

unfoldable pub so_many : ℕ → (List ℕ → Got Term) → List ℕ → Got Terms
so_many zero go bs = got no_terms bs
so_many (suc n) go bs = then (go bs) (λ t bs₁. then (so_many n go bs₁) (λ ts bs₂. got (term_and t ts) bs₂))

-- a formula with the tag k, where `go` reads those in it
abbrev pub term_tag : (List ℕ → Got Term) → ℕ → List ℕ → Got Term
term_tag go zero bs = then (read_value bs) (λ v bs₁. got (const v) bs₁)
term_tag go (suc zero) bs = then (read_ref bs) (λ a bs₁. got (cell a) bs₁)
term_tag go (suc (suc zero)) bs = then (read_ref bs) (λ a bs₁. then (read_ref bs₁) (λ b bs₂. got (area a b) bs₂))
term_tag go (suc (suc (suc zero))) bs = then (read_name bs) (λ n bs₁. got (named n) bs₁)
term_tag go (suc (suc (suc (suc zero)))) bs = got gone bs
term_tag go (suc (suc (suc (suc (suc zero))))) bs = then (go bs) (λ t bs₁. got (opposite t) bs₁)
term_tag go (suc (suc (suc (suc (suc (suc zero)))))) bs =
    then (one bs) (λ k bs₁. only (nat_lt k 8) (then (go bs₁) (λ a bs₂. then (go bs₂) (λ b bs₃. got (bin k a b) bs₃))))
term_tag go (suc (suc (suc (suc (suc (suc (suc zero))))))) bs =
    then (one bs) (λ k bs₁. only (nat_lt k 10) (then (one bs₁) (λ n bs₂. only (nat_le n 16) (then (so_many n go bs₂) (λ ts bs₃. got (call k ts) bs₃)))))
term_tag go (suc (suc (suc (suc (suc (suc (suc (suc n)))))))) bs = nothing

-- a formula at most so deep
unfoldable pub read_term : ℕ → List ℕ → Got Term
read_term zero bs = nothing
read_term (suc f) bs = then (one bs) (term_tag (λ b. read_term f b))

-- rows (true) or columns, where, how many
pub record Stretch : Type 0 where
  pub along : Bool
  pub place : ℕ
  pub many : ℕ

abbrev pub a_stretch : Stretch → Bool
a_stretch s = (nat_lt s.place (pick s.along 65536 256) && nat_le 1 s.many) && nat_le s.many (pick s.along 65536 256)

abbrev pub stretch_of : Bool → ℕ → ℕ → Stretch
stretch_of v p k = record { along = v; place = p; many = k }

abbrev pub read_stretch : List ℕ → Got Stretch
read_stretch bs = then (read_flag bs) (λ v bs₁. then (read_eight bs₁) (λ p bs₂. then (read_eight bs₂) (λ k bs₃.
    only (a_stretch (stretch_of v p k)) (got (stretch_of v p k) bs₃))))

-- what a name may stand for
abbrev pub target_tag : ℕ → List ℕ → Got Term
target_tag zero bs = nothing
target_tag (suc zero) bs = then (read_ref bs) (λ a bs₁. got (cell a) bs₁)
target_tag (suc (suc zero)) bs = then (read_ref bs) (λ a bs₁. then (read_ref bs₁) (λ b bs₂. got (area a b) bs₂))
target_tag (suc (suc (suc n))) bs = nothing

abbrev pub read_target : List ℕ → Got Term
read_target bs = then (one bs) target_tag

abbrev pub command_tag : ℕ → List ℕ → Got Command
command_tag zero bs = nothing
command_tag (suc zero) bs = then (read_place bs) (λ p bs₁. only (nat_le (length bs₁) 1024) (then (read_term 32 bs₁) (λ t bs₂. got (set_cell p.col p.row t) bs₂)))
command_tag (suc (suc zero)) bs = then (read_box bs) (λ b bs₁. got (wipe b) bs₁)
command_tag (suc (suc (suc zero))) bs = then (read_place bs) (λ p bs₁. got (show p.col p.row) bs₁)
command_tag (suc (suc (suc (suc zero)))) bs = then (read_box bs) (λ b bs₁. only (nat_le (places_of b) 4096) (got (rows b) bs₁))
command_tag (suc (suc (suc (suc (suc zero))))) bs = then (read_place bs) (λ p bs₁. got (written p.col p.row) bs₁)
command_tag (suc (suc (suc (suc (suc (suc zero)))))) bs = then (read_name bs) (λ n bs₁. then (read_target bs₁) (λ t bs₂. got (name n t) bs₂))
command_tag (suc (suc (suc (suc (suc (suc (suc zero))))))) bs = then (read_name bs) (λ n bs₁. got (unname n) bs₁)
command_tag (suc (suc (suc (suc (suc (suc (suc (suc zero)))))))) bs = then (read_stretch bs) (λ s bs₁. got (insert s.along s.place s.many) bs₁)
command_tag (suc (suc (suc (suc (suc (suc (suc (suc (suc zero))))))))) bs = then (read_stretch bs) (λ s bs₁. got (remove s.along s.place s.many) bs₁)
command_tag (suc (suc (suc (suc (suc (suc (suc (suc (suc (suc zero)))))))))) bs =
    then (read_box bs) (λ b bs₁. then (read_place bs₁) (λ p bs₂. got (copy b p.col p.row) bs₂))
command_tag (suc (suc (suc (suc (suc (suc (suc (suc (suc (suc (suc n))))))))))) bs = nothing

-- with nothing behind it
abbrev pub whole : Got Command → Option Command
whole (got c []) = Some c
whole (got c (b ∷ bs)) = None
whole nothing = None

abbrev pub read_command : List ℕ → Option Command
read_command bs = whole (then (one bs) command_tag)

-- what is behind what is read
abbrev pub Behind : {A : Type 0} → Got A → List ℕ → Type 0
Behind {A} g bs = (a : A) × (g ≡ got a bs)

abbrev pub spot : ℕ → ℕ → Place
spot c r = record { col = c; row = r }

-- it reads what is said, and nothing else; so it can be told whether a text says a command
unfoldable pub Reads : Type 0
Reads = (text : List ℕ) (c : Command) → (read_command text ≡ Some c → Said text c) × (Said text c → read_command text ≡ Some c)

unfoldable pub ToldApart : Type 0
ToldApart = (text : List ℕ) → ((c : Command) × Said text c) ⊎ ((c : Command) → Said text c → Never)
