-- Parts of the sentence that says why a model was not chosen.
use Rattle.std.specs.Prelude.{List, ◌++◌, ℕ, ℤ}
use Rattle.rules.specs.Text.{text, signed_decimal}

-- Below the chosen one by the utility
unfoldable pub lower_utility_words : ℤ → ℤ → List ℕ
lower_utility_words utility best = text "its utility of " ++ signed_decimal utility ++ text " microunits is below " ++ signed_decimal best ++ text "."
