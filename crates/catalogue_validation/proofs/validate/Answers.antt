-- `catalogue_validation::validate` meets its contract: 1 and 2, then the catalogue. Assumes nothing.
use Rattle.rules.proofs.Faults.{exit_outcome, passed}
use Rattle.rules.specs.Validate.{validate_of}
use Rattle.catalogue_validation.proofs.validate.Goals as goal

pub returns-in_err-bank_outcome : goal.returns-in_err-bank_outcome
unfolding validate_of
returns-in_err-bank_outcome c = exit_outcome _ _ _ _ c.from_residual.ensures.1 c.in_err-bank_outcome.ensures

pub returns : goal.returns
unfolding validate_of
returns c = rw (passed _ c.in_ok-bank_outcome.ensures) c.catalog_outcome.ensures
