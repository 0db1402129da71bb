-- The main promise for an engine that knows nothing: every command ends at once, refused with what the promise asks for.
use Rattle.std.proofs.Common.{◌≡◌, ℕ, zero, suc, List, [], ◌∷◌, Some, None, Option, refl, inl, inr, arith}
use Rattle.plain.specs.Sheet.{Sheet}
use Rattle.plain.specs.Commands.{Command}
use Rattle.plain.specs.Run.{World, Item, power, power_stops, whole, stops, one_act, runs, dark, woken, ran_as, Right, Steady, refusal_end_lem}
use Rattle.plain.specs.Promise.{May, Whole}
use Rattle.plain.specs.Read.{read_command}
use Rattle.plain.proofs.Many.{all_zero}
use Rattle.plain.proofs.Reading.{said_of, unsaid}
use Rattle.sheet.specs.Known.{known}
use Rattle.sheet.specs.Own.{refusal_by, refusal_of}
use Rattle.sheet.specs.Entry.{own}
use Rattle.sheet.proofs.Steps.{length_start}

steady : Steady own
unfolding Steady own
steady = (rw length_start (omega arith), all_zero 262144, λ m ev. (refl, λ s. s))

-- what may be answered to bytes: their refusal, with nothing shown and nothing changed
may_refuse : (lines : ℕ) (s : Sheet) (text : List ℕ) (r : ℕ) → May known lines s text [] r (refusal_end_lem (refusal_of text)) s
unfolding May refusal_of
may_refuse lines s text r = go (read_command text) refl
  where
    go : (o : Option Command) → read_command text ≡ o → May known lines s text [] r (refusal_end_lem (refusal_by o)) s
    go None e = inr (inr (unsaid text e, refl, refl, refl))
    go (Some c) e = inr (inl (c, said_of text c e, refl, refl, refl, refl))

right : (lines : ℕ) (v : World) (s : Sheet) (is : List Item) → Right (May known lines) (λ w. w) own v s is
unfolding Right runs one_act own
right lines v s [] = refl
right lines v s (power ∷ is) = (1, refl, refl, right lines (woken own 1 v).here s is)
right lines v s (power_stops zero cs ∷ is) = (inr refl, refl, right lines (dark (woken own zero v).here cs) s is)
right lines v s (power_stops (suc n) cs ∷ is) = (inl refl, refl, right lines (dark (woken own (suc n) v).here cs) s is)
right lines v s (whole t ∷ is) = (1, s, may_refuse lines s t 0, right lines (ran_as own 1 v t).here s is)
right lines v s (stops t zero cs ∷ is) =
    (s, inr (refl, [], 0, refusal_end_lem (refusal_of t), s, may_refuse lines s t 0, inl refl), right lines (dark (ran_as own zero v t).here cs) s is)
right lines v s (stops t (suc n) cs ∷ is) = (s, inl (may_refuse lines s t 0), right lines (dark (ran_as own (suc n) v t).here cs) s is)

pub whole_known : Whole known own
unfolding Whole
whole_known = (steady, λ lines is low high few proper-is. right lines _ _ is)
