-- `catalogue_records::record_outcome` meets its contract: 12, then 13 and 14. Assumes nothing.
use Rattle.rules.proofs.Kit.{refl}
use Rattle.rules.proofs.Faults.{append_refused, exit_outcome, passed}
use Rattle.rules.specs.Validate.{record_faults}
use Rattle.catalogue_records.proofs.records.record_outcome.Goals as goal

pub returns-in_err-repeat_outcome : goal.returns-in_err-repeat_outcome
unfolding record_faults
returns-in_err-repeat_outcome c = exit_outcome _ _ _ _ c.from_residual.ensures.1 (append_refused _ _ refl c.in_err-repeat_outcome.ensures)

pub returns : goal.returns
unfolding record_faults
returns c = rw (passed _ c.in_ok-repeat_outcome.ensures, ← c.model_at.ensures) c.model_outcome.ensures
