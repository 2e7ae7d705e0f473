-- `export_checks::checked_call_outcome` meets its contract. Assumes nothing.
use Rattle.rules.proofs.Faults.{exit_outcome, passed}
use Rattle.export_checks.proofs.{Tests.call-request}
use Rattle.export_checks.proofs.refuse.checked_call_outcome.Goals as goal

pub returns-in_err-call_outcome : goal.returns-in_err-call_outcome
returns-in_err-call_outcome c = exit_outcome _ _ _ _ c.from_residual.ensures.1 c.in_err-call_outcome.ensures

pub input_of-input-requires : goal.input_of-input-requires
input_of-input-requires c = call-request _ _ _ (passed _ c.in_ok-call_outcome.ensures)

pub returns : goal.returns
returns c = rw (passed _ c.in_ok-call_outcome.ensures, ← c.input_of-input.ensures) c.input_outcome.ensures
