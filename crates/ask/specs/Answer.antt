-- The text that answers a question.
use Rattle.std.specs.Prelude.{ℕ, List}
use Rattle.rules.specs.Printed.{ask_text}
use Rattle.rules.specs.Words.{ask_words}
use Rattle.program_question.specs.declared.DeskQuestion.{DeskQuestion}
use Rattle.program_question.specs.declared.DeskQuestion.TheVariants.{Lines, Words}

-- An id's lines, or its sentences
unfoldable pub answer_text : DeskQuestion → List ℕ → List ℕ
answer_text (Lines id) input = ask_text id input
answer_text (Words id) input = ask_words id input
