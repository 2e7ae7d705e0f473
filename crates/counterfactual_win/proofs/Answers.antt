-- ANY TWO PERMITTED ANSWERS ARE EQUAL: the rule that the promise cites is told, and what is told has a way back. Assumes nothing.
use Rattle.rules.proofs.Kit.{ℕ, List}
use Rattle.rules.specs.{Levers.told_bounds, Win.what_would_win_of, declared.records.KernelInput.KernelInput, declared.records.PolicySnapshot.PolicySnapshot}
use Rattle.rules.proofs.Told.{Same, one_bounds}

pub one_what_would_win : (p : PolicySnapshot) (q : KernelInput) (bank : List ℕ) (id : ℕ) → Same told_bounds (what_would_win_of p q bank id)
one_what_would_win p q bank id = one_bounds _
