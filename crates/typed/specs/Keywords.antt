-- The words of a formula that are neither names nor functions. Assumes nothing: these are definitions.
use Rattle.std.specs.Prelude.{ℕ, true, false, List, [], ◌∷◌, codes}
use Rattle.typed.specs.declared.words.Keyword.{Keyword}
use Rattle.typed.specs.declared.words.Keyword.TheVariants.{Truth, Gone}

abbrev pub keyword_word : Keyword → List ℕ
keyword_word (Truth false) = codes "false"
keyword_word (Truth true) = codes "true"
keyword_word Gone = codes "gone"

abbrev pub all_keywords : List Keyword
all_keywords = Truth false ∷ Truth true ∷ Gone ∷ []
