-- `catalogue::early_outcome` meets its contract: 1 and 2, 16, 17. Assumes nothing.
use Rattle.rules.proofs.Kit.{refl}
use Rattle.rules.proofs.Faults.{append_refused, exit_outcome, passed}
use Rattle.rules.specs.Trust.{early_faults}
use Rattle.catalogue.proofs.loading.early_outcome.Goals as goal

pub returns-in_err-bank_outcome : goal.returns-in_err-bank_outcome
unfolding early_faults
returns-in_err-bank_outcome c = exit_outcome _ _ _ _ c.from_residual.ensures.1 (append_refused _ _ refl c.in_err-bank_outcome.ensures)

pub returns-in_err-reserved_outcome : goal.returns-in_err-reserved_outcome
unfolding early_faults
returns-in_err-reserved_outcome c =
    rw (passed _ c.in_ok-bank_outcome.ensures)
    (exit_outcome _ _ _ _ c.from_residual-in_err-reserved_outcome.ensures.1 c.in_err-reserved_outcome.ensures)

pub returns : goal.returns
unfolding early_faults
returns c = rw (passed _ c.in_ok-bank_outcome.ensures, passed _ c.in_ok-reserved_outcome.ensures) c.flag_outcome.ensures
