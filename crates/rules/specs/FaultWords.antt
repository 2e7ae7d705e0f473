-- The question from the desk, in words: what refuses the input.
use Rattle.std.specs.Prelude.{ℕ, List, [], ◌++◌}
use Rattle.rules.specs.Choice.{equal}
use Rattle.rules.specs.Refused.{Fault}
use Rattle.rules.specs.Text.{text}
use Rattle.rules.specs.Phrases.{sentence, about}
use Rattle.rules.specs.NotChosen.{of_model}
use Rattle.rules.specs.Printed.{refused_line}

-- Q8. A number of basis points above the highest that is allowed
unfoldable pub too_many : List ℕ → ℕ → List ℕ → List ℕ
too_many name value highest = about name value (text " basis points; at most " ++ highest ++ text " are allowed.")

-- Q8, N3, N10. Of the request, of the policy: the field, and what it says
unfoldable pub field_words : ℕ → ℕ → List ℕ
field_words field value =
    equal field 1 (too_many (text "The request's risk is ") value (text "10000"))
    (equal field 2 (too_many (text "The request's confidence is ") value (text "10000"))
    (equal field 3 (too_many (text "The request's minimum quality is ") value (text "10000"))
    (equal field 4 (too_many (text "The policy's hard risk limit is ") value (text "10000"))
    (equal field 5 (too_many (text "The policy's minimum confidence is ") value (text "10000"))
    (too_many (text "The policy's risk multiplier is ") value (text "50000"))))))

-- Q8, N14. Of a model: its quality or its ceiling
unfoldable pub range_words : ℕ → ℕ → List ℕ
range_words field value =
    equal field 7 (too_many (text " has a quality of ") value (text "10000")) (too_many (text " has a risk ceiling of ") value (text "10000"))

-- Q8, N3, N5, N10 to N15, N19 to N22, O4, F4. A sentence for each number that an input is refused with, by the id that was asked about; no other has one
unfoldable pub fault_words : ℕ → Fault → List ℕ
fault_words asked f =
    equal f.number 3 (sentence (field_words f.field f.value))
    (equal f.number 5 (of_model asked (text " is not listed."))
    (equal f.number 10 (sentence (field_words f.field f.value))
    (equal f.number 11 (sentence (text "No model is listed."))
    (equal f.number 12 (of_model f.id (text " is listed more than once."))
    (equal f.number 13 (of_model f.id (about (text " has provider ") f.value (text "; providers go from 0 to 63.")))
    (equal f.number 14 (of_model f.id (range_words f.field f.value))
    (equal f.number 15 (sentence (text "Every model is switched off."))
    (equal f.number 19 (sentence (text "More than 900 models are listed."))
    (equal f.number 20 (sentence (text "The input ends within a field."))
    (equal f.number 21 (sentence (text "A field of the input is missing, out of its order, or one too many."))
    (equal f.number 22 (sentence (text "A field of the input has a length that its tag does not have."))
    (equal f.number 23 (sentence (text "The input's rounding, under tag 4, is not 1."))
    (equal f.number 25 (sentence (text "The input's latency allowance, under tag 5, is 0.")) [])))))))))))))

-- Q8, X3. The line of the number, and its sentence
unfoldable pub refused_words : ℕ → Fault → List ℕ
refused_words asked f = refused_line f ++ fault_words asked f
