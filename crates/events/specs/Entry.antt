-- How a step is told to the world outside. Assumes nothing: these are definitions.
use Rattle.std.specs.Prelude.{◌≡◌, ℕ, ◌+◌, ◌*◌, ◌≤◌, Bool, true, false, ◌&&◌, List, [], ◌∷◌, ◌++◌, length, take, drop, ◌==◌, nat_le}
use Rattle.plain.specs.Term.{pick}
use Rattle.plain.specs.Run.{Engine, Event, on, said, line, next, Act, read, store, settle, shows, done, refused, Step}
use Rattle.events.specs.declared.told.Told.{Told}
use Rattle.events.specs.declared.told.Told.TheVariants.{Read, Store, Settle, Shows, Done, No}

-- what the world tells is a kind and some bytes: 0 power, with a number of eight bytes, the highest first, 1 a command, 2 a line, 3 go on
unfoldable pub from_eight : ℕ → List ℕ → ℕ
from_eight n [] = n
from_eight n (b ∷ bs) = from_eight (256 * n + b) bs

unfoldable pub event_of : ℕ → List ℕ → Event
event_of k bs = pick (k == 0) (on (from_eight 0 (take 8 bs))) (pick (k == 1) (said bs) (pick (k == 2) (line bs) next))

unfoldable pub ActTold : Act → Told → (out out₁ : List ℕ) → Type 0
ActTold (read k) r out out₁ = (r ≡ Read k) × (out₁ ≡ out)
ActTold (store k p) r out out₁ = (r ≡ Store k) × (out₁ ≡ p ++ drop (length p) out)
ActTold (settle k) r out out₁ = (r ≡ Settle k) × (out₁ ≡ out)
ActTold (shows s) r out out₁ = (r ≡ Shows (length s)) × (out₁ ≡ s ++ drop (length s) out)
ActTold done r out out₁ = (r ≡ Done) × (out₁ ≡ out)
ActTold (refused k) r out out₁ = (r ≡ No k) × (out₁ ≡ out)

-- what a step comes to: the memory afterwards, and the act
abbrev pub StepTold : Step → Told → (memory₁ out out₁ : List ℕ) → Type 0
StepTold z r memory₁ out out₁ = (memory₁ ≡ z.memory) × ActTold z.act r out out₁

-- one step of an engine: for memories of its own length and a lent row of 131,072 bytes; for others number 0 is told and nothing is changed
unfoldable pub StepOf : Engine → (memory : List ℕ) (kind : ℕ) (bytes out : List ℕ) → Bool → Told → (memory₁ out₁ : List ℕ) → Type 0
StepOf e memory kind bytes out true r memory₁ out₁ = StepTold (e.step memory (event_of kind bytes)) r memory₁ out out₁
StepOf e memory kind bytes out false r memory₁ out₁ = (r ≡ No 0) × (memory₁ ≡ memory) × (out₁ ≡ out)

unfoldable pub fits_of : Engine → (memory : List ℕ) (kind : ℕ) (bytes out : List ℕ) → Bool
fits_of e memory kind bytes out = length memory == length e.start && (nat_le kind 3 && nat_le 131072 (length out))

-- what fits, where an engine's memory is of 262,144 words
abbrev pub HasSizes : (memory : List ℕ) (kind : ℕ) (out : List ℕ) → Type 0
HasSizes memory kind out = (length memory ≡ 262144) × (kind ≤ 3) × (131072 ≤ length out)
