-- ANY TWO PERMITTED ANSWERS ARE EQUAL: what is told has a way back. Assumes nothing.
use Rattle.rules.proofs.Kit.{ℕ, List}
use Rattle.rules.specs.{Refused.told_outcome, Validate.validate_of, declared.records.PolicySnapshot.PolicySnapshot}
use Rattle.rules.proofs.Told.{Same, one_outcome}

pub one_validate : (p : PolicySnapshot) (bank : List ℕ) → Same told_outcome (validate_of p bank)
one_validate p bank = one_outcome _
