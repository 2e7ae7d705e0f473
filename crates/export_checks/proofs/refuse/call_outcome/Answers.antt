-- `export_checks::call_outcome` meets its contract. Assumes nothing.
use Rattle.rules.proofs.Kit.{eq-eqb, ne_eqb}
use Rattle.rules.specs.Refused.{size_faults, first_fault, told_outcome}
use Rattle.rules.proofs.Faults.{exit_outcome, passed}
use Rattle.export_checks.specs.Checks.{call_faults}
use Rattle.export_checks.proofs.refuse.call_outcome.Goals as goal

pub returns-then-request-ne-REQUEST_BYTES : goal.returns-then-request-ne-REQUEST_BYTES
unfolding call_faults size_faults first_fault told_outcome
returns-then-request-ne-REQUEST_BYTES c = rw (ne_eqb _ _ c.if-request-ne-REQUEST_BYTES.true)

pub returns-in_err-policy_lent_outcome : goal.returns-in_err-policy_lent_outcome
unfolding call_faults size_faults
returns-in_err-policy_lent_outcome c =
    rw (eq-eqb _ _ c.if-request-ne-REQUEST_BYTES.false)
    (exit_outcome _ _ _ _ c.from_residual.ensures.1 c.in_err-policy_lent_outcome.ensures)

pub returns : goal.returns
unfolding call_faults size_faults
returns c = rw (eq-eqb _ _ c.if-request-ne-REQUEST_BYTES.false, passed _ c.in_ok-policy_lent_outcome.ensures) c.lent_outcome.ensures
