-- What the arguments ask.
use Rattle.std.specs.Prelude.{ℕ, ◌+◌, ◌*◌, ◌-◌, Bool, true, false, List, [], ◌∷◌, eqb, Some, None}
use Rattle.std.specs.Prelude as declared
use Rattle.std.proofs.Math.Option.{Option, none, some}
use Rattle.rules.specs.Choice.{below, equal, pick}
use Rattle.rules.specs.Text.{text}
use Rattle.program_question.specs.declared.DeskQuestion.{DeskQuestion}
use Rattle.program_question.specs.declared.DeskQuestion.TheVariants.{Lines, Words}

-- The number that decimal digits say, after digits that said one already; none where some byte is no digit
unfoldable pub number_after : ℕ → List ℕ → Option ℕ
number_after n [] = some n
number_after n (b ∷ bs) = below b 48 none (below 57 b none (number_after (n * 10 + (b - 48)) bs))

-- An id is at most 4,294,967,295
unfoldable pub id_or_unclear : Option ℕ → declared.Option DeskQuestion
id_or_unclear none = None
id_or_unclear (some n) = below 4294967295 n None (Some (Lines n))

-- The question about the id that an argument says, with a digit at least
unfoldable pub about_of : List ℕ → declared.Option DeskQuestion
about_of [] = None
about_of (b ∷ bs) = id_or_unclear (number_after 0 (b ∷ bs))

-- The same question, to be answered in words
unfoldable pub in_words : declared.Option DeskQuestion → declared.Option DeskQuestion
in_words (Some (Lines id)) = Some (Words id)
in_words (Some (Words id)) = Some (Words id)
in_words None = None

-- Whether two texts are the same
unfoldable pub same_text : List ℕ → List ℕ → Bool
same_text [] [] = true
same_text [] (b ∷ bs) = false
same_text (a ∷ rest) [] = false
same_text (a ∷ rest) (b ∷ bs) = pick (eqb a b) (λ _. same_text rest bs) (λ _. false)

-- What arguments ask, the program's name counted among them: an id alone, or an id and `words`
unfoldable pub question_of : ℕ → List ℕ → List ℕ → declared.Option DeskQuestion
question_of count first second =
    equal count 2 (about_of first)
    (equal count 3 (pick (same_text second (text "words")) (λ _. in_words (about_of first)) (λ _. None)) None)
