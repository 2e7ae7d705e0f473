-- `unpacking_policy::policy_from` meets its contract. Assumes nothing.
use Rattle.rules.specs.Stored.{read_policy_of}
use Rattle.rules.proofs.Faults.{exit_answer, passed, passed_answer}
use Rattle.unpacking_policy.proofs.{Policies.policy_sized}
use Rattle.unpacking_policy.proofs.policy_from.Goals as goal

pub returns-in_err-policy_lent_outcome : goal.returns-in_err-policy_lent_outcome
unfolding read_policy_of
returns-in_err-policy_lent_outcome c = exit_answer _ _ _ _ _ c.from_residual.ensures.1 c.in_err-policy_lent_outcome.ensures

pub policy_of-requires : goal.policy_of-requires
policy_of-requires c = policy_sized _ (passed _ c.in_ok-policy_lent_outcome.ensures)

pub returns : goal.returns
unfolding read_policy_of
returns c = passed_answer _ _ _ c.in_ok-policy_lent_outcome.ensures c.policy_of.ensures
