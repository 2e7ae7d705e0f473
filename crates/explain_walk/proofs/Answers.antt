-- ANY TWO PERMITTED ANSWERS ARE EQUAL, of `next_eligible`. Assumes nothing.
use Rattle.rules.proofs.Kit.{ℕ, List}
use Rattle.rules.specs.{Numbers.told_next, Explain.next_eligible_of}
use Rattle.rules.proofs.Told.{Same, one_next}

pub one_next_eligible : (list : List ℕ) (from : ℕ) → Same told_next (next_eligible_of list from)
one_next_eligible list from = one_next _
