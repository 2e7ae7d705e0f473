-- `export_edits::stock_outcome` meets its contract. Assumes nothing.
use Rattle.rules.proofs.Kit.{ap, ◌∙◌}
use Rattle.rules.specs.Refused.{told_outcome, first_fault}
use Rattle.rules.proofs.Faults.{exit_is}
use Rattle.live_slots.proofs.Told.{number_refused, number_passed}
use Rattle.export_edits.proofs.stock_outcome.Goals as goal

pub returns-in_err-live_policy_outcome : goal.returns-in_err-live_policy_outcome
returns-in_err-live_policy_outcome c =
    ap told_outcome (exit_is _ _ c.from_residual.ensures.1) ∙ number_refused _ _ _ c.in_err-live_policy_outcome.ensures

pub returns : goal.returns
unfolding told_outcome first_fault
returns c = rw (number_passed _ _ _ c.in_ok-live_policy_outcome.ensures).0
