-- ANY TWO PERMITTED ANSWERS ARE EQUAL, and any two permitted buffers. Assumes nothing.
use Rattle.rules.proofs.Kit.{ℕ, List}
use Rattle.rules.specs.Printed.{unit_text}
use Rattle.program_deliver.proofs.Answers.{Same, one_print}

pub one_unit_text : (input out : List ℕ) → Same (unit_text input) out
one_unit_text input out = one_print (unit_text input) out
