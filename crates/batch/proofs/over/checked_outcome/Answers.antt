-- `batch::over::checked_outcome` meets its contract. Assumes nothing.
use Rattle.rules.proofs.Faults.{exit_outcome, passed}
use Rattle.batch.proofs.over.checked_outcome.Goals as goal

pub returns-in_err-room_outcome : goal.returns-in_err-room_outcome
returns-in_err-room_outcome c = exit_outcome _ _ _ _ c.from_residual.ensures.1 c.in_err-room_outcome.ensures

pub returns : goal.returns
returns c = rw (passed _ c.in_ok-room_outcome.ensures) c.first_bad.ensures
