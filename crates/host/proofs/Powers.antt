-- Power: the number of lines, memory as at the start; and a command as a whole.
use Rattle.std.proofs.Common.{◌≡◌, ℕ, zero, suc, ◌-◌, List, [], ◌++◌, length, replicate, sym, refl, ap, ◌∙◌, ap₂, arith}
use Rattle.std.specs.declared.ops.ControlFlow.{ControlFlow}
use Rattle.plain.specs.Device.{Device}
use Rattle.plain.specs.Run.{World, Event, on, ran, runs, woken}
use Rattle.sheet.specs.Entry.{own}
use Rattle.device.proofs.Seen.{many_replicated}
use Rattle.host.specs.declared.after.After.{After}
use Rattle.host.specs.declared.end.End.{End}
use Rattle.host.specs.Acts.{acted_by, carried, out_of}
use Rattle.host.proofs.Carries.{runs_carried}
use Rattle.host.proofs.Loops.{rows_in}

pub woken_so : (n l : ℕ) (d : Device) (m₀ m : List ℕ) → m ≡ replicate 262144 0 → l ≡ length d.lines →
    woken own n (record { device = d; memory = m₀ }) ≡ runs n own (record { device = d; memory = m }) (on l) [] 0
unfolding own
woken_so n l d m₀ m em el = ap₂ (λ x k. runs n own (record { device = d; memory = x }) (on k) [] 0) (sym (em ∙ many_replicated 262144 0)) (sym el)

-- no act at all
pub none_run : (n : ℕ) (w : World) (ev : Event) (rows : List (List ℕ)) → n ≡ 0 → rows ≡ [] → ran w rows 0 1000 ≡ runs n own w ev [] 0
unfolding runs
none_run n w ev rows e f = ap (λ x. ran w x 0 1000) f ∙ sym (ap (λ k. runs k own w ev [] 0) e)

-- the first act, and those after it
pub all_run : (n : ℕ) (w w₁ : World) (ev : Event) (a : ControlFlow End After) (start rows ss : List (List ℕ)) → (n ≡ 0 → ⊥) → start ≡ [] → rows ≡ start ++ ss → out_of a w₁ ss ≡ acted_by own w ev →
    runs n own w ev [] 0 ≡ carried (n - 1) own rows 0 (out_of a w₁ [])
all_run zero w w₁ ev a start rows ss z s r o = absurd (z refl)
all_run (suc n) w w₁ ev a start rows ss z s r o =
    let k : suc n - 1 ≡ n = omega arith in
    runs_carried n own w ev [] 0 ∙ (ap (carried n own [] 0) (sym o) ∙ (rows_in own n a w₁ [] ss 0
    ∙ sym (ap₂ (λ m qs. carried m own qs 0 (out_of a w₁ [])) k (r ∙ ap (λ qs. qs ++ ss) s))))
