-- `call_checks::checked_outcome` meets its contract. Assumes nothing.
use Rattle.rules.proofs.Kit.{refl, ◌∙◌, sym}
use Rattle.rules.proofs.Faults.{exit_outcome, append-passed}
use Rattle.call_checks.proofs.refuse.checked_outcome.Goals as goal

pub returns-in_err-bank_outcome : goal.returns-in_err-bank_outcome
returns-in_err-bank_outcome c = exit_outcome _ _ _ _ c.from_residual.ensures.1 c.in_err-bank_outcome.ensures

pub returns : goal.returns
returns c = c.input_outcome.ensures ∙ sym (append-passed _ _ refl c.in_ok-bank_outcome.ensures)
