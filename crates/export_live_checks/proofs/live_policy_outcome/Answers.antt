-- `export_live_checks::live_policy_outcome` meets its contract. Assumes nothing.
use Rattle.rules.proofs.Faults.{passed}
use Rattle.export_live_checks.proofs.{Openings.exit_number}
use Rattle.export_live_checks.proofs.live_policy_outcome.Goals as goal

pub returns-in_err-policy_lent_outcome : goal.returns-in_err-policy_lent_outcome
returns-in_err-policy_lent_outcome c = exit_number _ _ _ _ _ c.from_residual.ensures.1 c.in_err-policy_lent_outcome.ensures

pub returns : goal.returns
returns c = rw (passed _ c.in_ok-policy_lent_outcome.ensures) c.live_lent_outcome.ensures
