-- `live_edits::edit_outcome` meets its contract. Assumes nothing.
use Rattle.rules.specs.Edits.{edit_faults}
use Rattle.rules.proofs.Faults.{exit_outcome, passed}
use Rattle.live_slots.proofs.Told.{number_refused, number_passed}
use Rattle.live_edits.proofs.placing.edit_outcome.Goals as goal

pub returns-in_err-read_slots : goal.returns-in_err-read_slots
unfolding edit_faults
returns-in_err-read_slots c =
    exit_outcome _ _ _ _ c.from_residual.ensures.1 (number_refused _ _ _ c.in_err-read_slots.ensures)

pub returns-in_err-offered_outcome : goal.returns-in_err-offered_outcome
unfolding edit_faults
returns-in_err-offered_outcome c =
    rw (number_passed _ _ _ c.in_ok-read_slots.ensures).0
    (exit_outcome _ _ _ _ c.from_residual-in_err-offered_outcome.ensures.1 c.in_err-offered_outcome.ensures)

pub returns : goal.returns
unfolding edit_faults
returns c =
    rw ((number_passed _ _ _ c.in_ok-read_slots.ensures).0, passed _ c.in_ok-offered_outcome.ensures) c.spent_outcome.ensures
