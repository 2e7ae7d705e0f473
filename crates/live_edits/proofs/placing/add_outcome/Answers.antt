-- `live_edits::add_outcome` meets its contract. Assumes nothing.
use Rattle.rules.specs.Edits.{add_faults}
use Rattle.rules.proofs.{Faults.exit_outcome, Faults.passed, Slots.live-few}
use Rattle.live_edits.proofs.{Chosen.edit-live}
use Rattle.live_edits.proofs.placing.add_outcome.Goals as goal

pub returns-in_err-edit_outcome : goal.returns-in_err-edit_outcome
unfolding add_faults
returns-in_err-edit_outcome c = exit_outcome _ _ _ _ c.from_residual.ensures.1 c.in_err-edit_outcome.ensures

pub there_outcome-requires : goal.there_outcome-requires
there_outcome-requires c = live-few _ (edit-live _ _ _ (passed _ c.in_ok-edit_outcome.ensures))

pub returns : goal.returns
unfolding add_faults
returns c = rw (passed _ c.in_ok-edit_outcome.ensures) c.there_outcome.ensures
