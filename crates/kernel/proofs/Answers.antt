-- ANY TWO PERMITTED ANSWERS ARE EQUAL, for each call that a user makes: the rule that its promise cites is told, and what is told has a way
-- back. Assumes nothing.
use Rattle.rules.proofs.Kit.{ℕ, List, [], ◌∷◌, ◌++◌, ◌≡◌, refl}
use Rattle.rules.specs.{Refused.told_outcome, Refused.Faults, Refused.bank_faults, Refused.Answer, Refused.refused, Refused.answered, Refused.unless}
use Rattle.rules.specs.{Numbers.told_prescribed, Numbers.told_traced, Numbers.told_utility, Numbers.told_found, Numbers.Decision, Numbers.DecisionAndTrace}
use Rattle.rules.specs.{Records.listed_of, Listing.find_of, Decide.request_faults, Decide.request_check, Decide.traced_of, Decide.prescribe_of}
use Rattle.rules.specs.{Decide.prescribe_checked_of, Decide.prescribe_traced_of, Decide.prescribe_traced_checked_of, Decide.utility_for_model_of}
use Rattle.rules.specs.{declared.records.KernelInput.KernelInput, declared.records.PolicySnapshot.PolicySnapshot}
use Rattle.rules.proofs.Told.{Same, one_outcome, one_prescribed, one_traced, one_utility, one_found}

module _ (p : PolicySnapshot) (q : KernelInput) (bank : List ℕ) where
  pub one-prescribe : Same told_prescribed (prescribe_of p q bank)
  one-prescribe = one_prescribed _

  pub one-prescribe-checked : Same told_prescribed (prescribe_checked_of p q bank)
  one-prescribe-checked = one_prescribed _

  pub one-prescribe-with-trace : Same told_traced (prescribe_traced_of p q bank)
  one-prescribe-with-trace = one_traced _

  pub one-prescribe-with-trace-checked : Same told_traced (prescribe_traced_checked_of p q bank)
  one-prescribe-with-trace-checked = one_traced _

  pub one-utility-for-model : (id : ℕ) → Same told_utility (utility_for_model_of p q id bank)
  one-utility-for-model id = one_utility _

pub one_find : (id : ℕ) (bank : List ℕ) → Same told_found (find_of id bank)
one_find id bank = one_found _

pub one_validate_input : (q : KernelInput) → Same told_outcome (request_check q)
one_validate_input q = one_outcome _

-- THE PLAIN CALLS DECIDE AS THE TRACED ONES: the same refusal, or the same decision without its counts
abbrev pub untraced : Answer DecisionAndTrace → Answer Decision
untraced (refused f) = refused f
untraced (answered a) = answered a.decision

without : (faults : Faults) (a : DecisionAndTrace) → unless faults refused (answered a.decision) ≡ untraced (unless faults refused (answered a))
without [] a = refl
without (f ∷ fs) a = refl

module _ (p : PolicySnapshot) (q : KernelInput) (bank : List ℕ) where
  pub plain-as-traced : prescribe_of p q bank ≡ untraced (prescribe_traced_of p q bank)
  unfolding prescribe_of prescribe_traced_of
  plain-as-traced = without (bank_faults bank) (traced_of p q (listed_of bank))

  pub checked-as-traced : prescribe_checked_of p q bank ≡ untraced (prescribe_traced_checked_of p q bank)
  unfolding prescribe_checked_of prescribe_traced_checked_of
  checked-as-traced = without (bank_faults bank ++ request_faults q 0) (traced_of p q (listed_of bank))
