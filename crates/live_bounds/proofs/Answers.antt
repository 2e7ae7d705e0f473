-- ANY TWO PERMITTED ANSWERS ARE EQUAL: the rule that the promise cites is told, and what is told has a way back. Assumes nothing.
use Rattle.rules.proofs.Kit.{ℕ, List}
use Rattle.rules.specs.{Levers.told_bounds, Live.live_what_would_win_of, Live.live_decision_margin_of, declared.records.KernelInput.KernelInput}
use Rattle.rules.specs.{declared.records.PolicySnapshot.PolicySnapshot}
use Rattle.rules.proofs.Told.{Same, one_bounds}

module _ (p : PolicySnapshot) (q : KernelInput) (bank : List ℕ) where
  pub one_what_would_win : (id : ℕ) → Same told_bounds (live_what_would_win_of p q bank id)
  one_what_would_win id = one_bounds _

  pub one_decision_margin : Same told_bounds (live_decision_margin_of p q bank)
  one_decision_margin = one_bounds _
