-- What a byte's kind says of the byte, where the kind was asked for as an Option.
use Rattle.std.proofs.Common.{◌≡◌, ℕ, ◌≢◌, Some, None, Ok, Err, Result, sym, ap, ◌∙◌}
use Rattle.std.specs.Result.{result_ok}
use Rattle.std.proofs.lemmas.Option.{none-some, same_Some}
use Rattle.spelling.specs.declared.kinds.NoSuchKind.{NoSuchKind}
use Rattle.spelling.specs.Kinds.{Numbered}

module _ {K : Type 0} (number : K → ℕ) where
  pub kind_is : {n : ℕ} {k : K} (r : Result K NoSuchKind) → Some k ≡ result_ok r → Numbered number n r → n ≡ number k
  kind_is (Ok x) e h = sym h ∙ ap number (sym (same_Some _ _ e))
  kind_is (Err x) e h = absurd (none-some _ (sym e))

  pub no_kind : (n : ℕ) (r : Result K NoSuchKind) → None ≡ result_ok r → Numbered number n r → (k : K) → n ≢ number k
  no_kind n (Ok x) e h k = absurd (none-some _ e)
  no_kind n (Err x) e h k = λ i. h.1 k (sym i)
