-- ANY TWO PERMITTED ANSWERS ARE EQUAL, for each call that a user makes: the rule that its promise cites is told, and what is told has a way
-- back. Assumes nothing.
use Rattle.rules.proofs.Kit.{ℕ, List}
use Rattle.rules.specs.{Numbers.told_prescribed, Numbers.told_traced, Numbers.told_utility, Numbers.told_found, Live.live_prescribe_of, Live.live_prescribe_checked_of}
use Rattle.rules.specs.{Live.live_prescribe_traced_of, Live.live_prescribe_traced_checked_of, Live.live_find_of, Live.live_utility_for_model_of}
use Rattle.rules.specs.{declared.records.KernelInput.KernelInput, declared.records.PolicySnapshot.PolicySnapshot}
use Rattle.rules.proofs.Told.{Same, one_prescribed, one_traced, one_utility, one_found}

module _ (p : PolicySnapshot) (q : KernelInput) (bank : List ℕ) where
  pub one-prescribe : Same told_prescribed (live_prescribe_of p q bank)
  one-prescribe = one_prescribed _

  pub one-prescribe-checked : Same told_prescribed (live_prescribe_checked_of p q bank)
  one-prescribe-checked = one_prescribed _

  pub one-prescribe-with-trace : Same told_traced (live_prescribe_traced_of p q bank)
  one-prescribe-with-trace = one_traced _

  pub one-prescribe-with-trace-checked : Same told_traced (live_prescribe_traced_checked_of p q bank)
  one-prescribe-with-trace-checked = one_traced _

  pub one-utility-for-model : (id : ℕ) → Same told_utility (live_utility_for_model_of p q id bank)
  one-utility-for-model id = one_utility _

pub one_find : (id : ℕ) (bank : List ℕ) → Same told_found (live_find_of id bank)
one_find id bank = one_found _
