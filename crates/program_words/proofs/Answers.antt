-- ANY TWO PERMITTED ANSWERS ARE EQUAL, and any two permitted buffers. Assumes nothing.
use Rattle.rules.proofs.Kit.{ℕ, List}
use Rattle.rules.specs.Words.{ask_words}
use Rattle.program_deliver.proofs.Answers.{Same, one_print}

pub one_ask_words : (id : ℕ) (input out : List ℕ) → Same (ask_words id input) out
one_ask_words id input out = one_print (ask_words id input) out
