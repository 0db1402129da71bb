-- Ends are told apart by their numbers.
use Rattle.std.proofs.Common.{◌≡◌, ℕ, ◌<◌, ◌≤◌, refl, ap, ap₂, subst, arith}
use Rattle.std.proofs.Math.Bridge.{le_prop}
use Rattle.host.specs.declared.end.Refusal.{Refusal}
use Rattle.host.specs.declared.end.End.{End}
use Rattle.host.specs.declared.end.End.TheVariants.{Done, Refused, Fault, StillRunning}
use Rattle.host.specs.Ends.{end_number}

InRange : ℕ → Type 0
InRange n = (1 ≤ n) × (n < 1000)

same_refusal : (a b : Refusal) → a.number ≡ b.number → a ≡ b
unfolding InRange
same_refusal a b e = subst Same e (λ r. ap (λ p. record { number = a.number; in_range = p }) (ap₂ (λ p q. (p, q)) (le_prop a.in_range.0 r.0) (le_prop a.in_range.1 r.1))) b.in_range
  where
    Same : ℕ → Type 0
    Same n = (r : InRange n) → ◌≡◌ {A = Refusal} a (record { number = n; in_range = r })

pub ends_are_told_apart : (a b : End) → end_number a ≡ end_number b → a ≡ b
ends_are_told_apart Done Done e = refl
ends_are_told_apart Done (Refused b) e = let h = b.in_range in absurd (omega arith)
ends_are_told_apart Done Fault e = absurd (omega arith)
ends_are_told_apart Done StillRunning e = absurd (omega arith)
ends_are_told_apart (Refused a) Done e = let h = a.in_range in absurd (omega arith)
ends_are_told_apart (Refused a) (Refused b) e = ap Refused (same_refusal a b e)
ends_are_told_apart (Refused a) Fault e = let h = a.in_range in absurd (omega arith)
ends_are_told_apart (Refused a) StillRunning e = let h = a.in_range in absurd (omega arith)
ends_are_told_apart Fault Done e = absurd (omega arith)
ends_are_told_apart Fault (Refused b) e = let h = b.in_range in absurd (omega arith)
ends_are_told_apart Fault Fault e = refl
ends_are_told_apart Fault StillRunning e = absurd (omega arith)
ends_are_told_apart StillRunning Done e = absurd (omega arith)
ends_are_told_apart StillRunning (Refused b) e = let h = b.in_range in absurd (omega arith)
ends_are_told_apart StillRunning Fault e = absurd (omega arith)
ends_are_told_apart StillRunning StillRunning e = refl
