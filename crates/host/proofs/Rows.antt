-- A line that is stored comes from the row that the engine was lent.
use Rattle.std.proofs.Common.{◌≡◌, ℕ, ◌<◌, List, [], length, take, sym, ap, ◌∙◌}
use Rattle.plain.specs.Term.{pick}
use Rattle.plain.specs.Device.{Device, storing}
use Rattle.plain.specs.Run.{next, on_device}
use Rattle.events.specs.declared.told.Told.TheVariants.{Store}
use Rattle.host.specs.Acts.{going, ended, carried_out}
use Rattle.std.proofs.lemmas.Bool.{lt-ltb}

-- a store as the code does it: the first 64 bytes of the row, to a line that there is
pub stores_so : (d d₁ : Device) (m row : List ℕ) (k : ℕ) (p : List ℕ) → k < length d.lines → d₁ ≡ storing d k p → p ≡ take 64 row →
    going (record { device = d₁; memory = m }) next [] 1 ≡ carried_out (Store k) (record { device = d; memory = m }) row
stores_so d d₁ m row k p h e f =
    ap (λ x. going (record { device = x; memory = m }) next [] 1) (e ∙ ap (storing d k) f)
    ∙ sym (ap (λ b. pick b (going (on_device m (storing d k (take 64 row))) next [] 1) (ended (record { device = d; memory = m }) [] 1001)) (lt-ltb k (length d.lines) h))
