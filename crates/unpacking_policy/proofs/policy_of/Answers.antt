-- `unpacking_policy::policy_of` meets its contract. Assumes nothing.
use Rattle.rules.specs.Records.{policy_of}
use Rattle.unpacking_policy.proofs.{Policies.policy-long}
use Rattle.unpacking_policy.proofs.policy_of.Goals as goal

pub policy_with-requires : goal.policy_with-requires
policy_with-requires c = policy-long _ c.requires

pub returns : goal.returns
unfolding policy_of
returns c = rw (← c.rounding_of.ensures, ← c.allowance_of.ensures) c.policy_with.ensures
