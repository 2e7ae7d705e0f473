-- ANY TWO PERMITTED ANSWERS ARE EQUAL, and any two permitted buffers. Assumes nothing.
use Rattle.rules.proofs.Kit.{ℕ, List}
use Rattle.rules.specs.Printed.{ask_text}
use Rattle.program_deliver.proofs.Answers.{Same, one_print}

pub one_ask_text : (id : ℕ) (input out : List ℕ) → Same (ask_text id input) out
one_ask_text id input out = one_print (ask_text id input) out
