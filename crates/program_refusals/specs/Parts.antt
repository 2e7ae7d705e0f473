-- Sentences of refusals, apart from the others.
use Rattle.std.specs.Prelude.{ℕ, List, []}
use Rattle.rules.specs.Choice.{equal}
use Rattle.rules.specs.Text.{text}
use Rattle.rules.specs.Phrases.{sentence, about}
use Rattle.rules.specs.NotChosen.{of_model}

-- N13. Of a model: its provider
unfoldable pub provider_words : ℕ → ℕ → List ℕ
provider_words id provider = of_model id (about (text " has provider ") provider (text "; providers go from 0 to 63."))

-- N19 to N22, O4, F4. By the number, where the input can't be read; no other has one here
unfoldable pub form_words : ℕ → List ℕ
form_words number =
    equal number 19 (sentence (text "More than 900 models are listed."))
    (equal number 20 (sentence (text "The input ends within a field."))
    (equal number 21 (sentence (text "A field of the input is missing, out of its order, or one too many."))
    (equal number 22 (sentence (text "A field of the input has a length that its tag does not have."))
    (equal number 23 (sentence (text "The input's rounding, under tag 4, is not 1."))
    (equal number 25 (sentence (text "The input's latency allowance, under tag 5, is 0.")) [])))))
