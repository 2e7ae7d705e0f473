-- ANY TWO PERMITTED ANSWERS ARE EQUAL: the rule that the promise cites is told, and what is told has a way back. Assumes nothing.
use Rattle.rules.proofs.Kit.{ℕ, List}
use Rattle.rules.specs.{Levers.told_bounds, Margin.decision_margin_of, declared.records.KernelInput.KernelInput}
use Rattle.rules.specs.{declared.records.PolicySnapshot.PolicySnapshot}
use Rattle.rules.proofs.Told.{Same, one_bounds}

pub one_decision_margin : (p : PolicySnapshot) (q : KernelInput) (bank : List ℕ) → Same told_bounds (decision_margin_of p q bank)
one_decision_margin p q bank = one_bounds _
