-- The loop over acts, by plain's run: one act more, the end, and no more acts.
use Rattle.std.proofs.Common.{◌≡◌, ℕ, suc, ◌+◌, ◌-◌, ◌<◌, ◌≤◌, List, [], ◌++◌, sym, ap, ◌∙◌, append-nil, arith}
use Rattle.std.specs.declared.ops.ControlFlow.{ControlFlow}
use Rattle.std.specs.declared.ops.ControlFlow.TheVariants.{Continue, Break}
use Rattle.plain.specs.Run.{World, Engine, ran, runs}
use Rattle.host.specs.declared.after.After.{After}
use Rattle.host.specs.declared.after.After.TheVariants.{Line, Stored, Next}
use Rattle.host.specs.declared.end.End.{End}
use Rattle.host.specs.Acts.{acted_by, carried, out_of, told_after, lines_of}
use Rattle.host.specs.Ends.{end_number}
use Rattle.host.proofs.Carries.{runs_carried}

pub few_lines : (a : After) → lines_of a ≤ 1
few_lines (Line p) = omega arith
few_lines Stored = omega arith
few_lines Next = omega arith

module _ (e : Engine) where
  -- rows that an act showed, counted among those that were shown before it
  pub rows_in : (n : ℕ) (a : ControlFlow End After) (w : World) (ss ss₁ : List (List ℕ)) (r : ℕ) → carried n e ss r (out_of a w ss₁) ≡ carried n e (ss ++ ss₁) r (out_of a w [])
  unfolding carried
  rows_in n (Continue a) w ss ss₁ r = ap (λ x. runs n e w (told_after a) x (r + lines_of a)) (sym (append-nil (ss ++ ss₁)))
  rows_in n (Break k) w ss ss₁ r = ap (λ x. ran w x r (end_number k)) (sym (append-nil (ss ++ ss₁)))

  act_more : (n : ℕ) (a : After) (w : World) (ss : List (List ℕ)) (r : ℕ) → carried (suc n) e ss r (out_of (Continue a) w []) ≡ carried n e ss (r + lines_of a) (acted_by e w (told_after a))
  unfolding carried
  act_more n a w ss r =
      runs_carried n e w (told_after a) (ss ++ []) (r + lines_of a) ∙ ap (λ x. carried n e x (r + lines_of a) (acted_by e w (told_after a))) (append-nil ss)

  pub goes_on : (m i : ℕ) (a a₁ : ControlFlow End After) (b : After) (w w₁ : World) (ss ss₁ rows : List (List ℕ)) (r : ℕ) → i < m → a ≡ Continue b → rows ≡ ss ++ ss₁ → out_of a₁ w₁ ss₁ ≡ acted_by e w (told_after b) →
      carried (m - (i + 1)) e rows (r + lines_of b) (out_of a₁ w₁ []) ≡ carried (m - i) e ss r (out_of a w [])
  goes_on m i a a₁ b w w₁ ss ss₁ rows r h g f o =
      let z : suc (m - (i + 1)) ≡ m - i = omega arith in
      ap (λ x. carried (m - (i + 1)) e x (r + lines_of b) (out_of a₁ w₁ [])) f
      ∙ (sym (rows_in (m - (i + 1)) a₁ w₁ ss ss₁ (r + lines_of b)) ∙ (ap (carried (m - (i + 1)) e ss (r + lines_of b)) o
      ∙ (sym (act_more (m - (i + 1)) b w ss r) ∙ (ap (λ x. carried x e ss r (out_of (Continue b) w [])) z ∙ sym (ap (λ x. carried (m - i) e ss r (out_of x w [])) g)))))

  pub ends_so : (n : ℕ) (a : ControlFlow End After) (k : End) (w : World) (ss : List (List ℕ)) (r : ℕ) → a ≡ Break k → ran w ss r (end_number k) ≡ carried n e ss r (out_of a w [])
  unfolding carried
  ends_so n a k w ss r h = ap (λ x. ran w x r (end_number k)) (sym (append-nil ss)) ∙ sym (ap (λ x. carried n e ss r (out_of x w [])) h)

  pub stays_so : (a : ControlFlow End After) (b : After) (w : World) (ss : List (List ℕ)) (r : ℕ) → a ≡ Continue b → ran w ss (r + lines_of b) 1000 ≡ carried 0 e ss r (out_of a w [])
  unfolding carried runs
  stays_so a b w ss r h = ap (λ x. ran w x (r + lines_of b) 1000) (sym (append-nil ss)) ∙ sym (ap (λ x. carried 0 e ss r (out_of x w [])) h)
