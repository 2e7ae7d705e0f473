-- `catalogue_validation::catalog_outcome` meets its contract: 10, 11, the records, 15. Assumes nothing.
use Rattle.rules.proofs.Kit.{refl}
use Rattle.rules.proofs.Faults.{append_refused, exit_outcome, passed}
use Rattle.rules.specs.{Validate.catalog_faults, Refused.first_fault, Refused.told_outcome}
use Rattle.catalogue_validation.proofs.{Walks.empty-yes, Walks.empty-no}
use Rattle.catalogue_validation.proofs.catalog_outcome.Goals as goal

pub returns-in_err-policy_outcome : goal.returns-in_err-policy_outcome
unfolding catalog_faults
returns-in_err-policy_outcome c =
    exit_outcome _ _ _ _ c.from_residual.ensures.1 (append_refused _ _ refl (append_refused _ _ refl c.in_err-policy_outcome.ensures))

pub returns-then-bank-eq0 : goal.returns-then-bank-eq0
unfolding catalog_faults first_fault told_outcome
returns-then-bank-eq0 c = rw (passed _ c.in_ok-policy_outcome.ensures, empty-yes _ c.if-bank-eq0.true)

pub returns-in_err-records_outcome : goal.returns-in_err-records_outcome
unfolding catalog_faults
returns-in_err-records_outcome c =
    rw (passed _ c.in_ok-policy_outcome.ensures, empty-no _ c.if-bank-eq0.false)
    (exit_outcome _ _ _ _ c.from_residual-in_err-records_outcome.ensures.1 c.in_err-records_outcome.ensures)

pub returns : goal.returns
unfolding catalog_faults
returns c =
    rw (passed _ c.in_ok-policy_outcome.ensures, empty-no _ c.if-bank-eq0.false, passed _ c.in_ok-records_outcome.ensures) c.off_outcome.ensures
