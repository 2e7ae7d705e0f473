-- `live_edits::slot_of_id` meets its contract. Assumes nothing.
use Rattle.rules.proofs.Kit.{refl}
use Rattle.rules.specs.{Slots.slot_with, Edits.slot_to_remove}
use Rattle.rules.proofs.{Faults.exit_answer, Faults.passed, Faults.passed_call, Slots.live-few}
use Rattle.live_edits.proofs.{Chosen.slot_told, Chosen.edit-live}
use Rattle.live_edits.proofs.placing.slot_of_id.Goals as goal

pub returns-in_err-edit_outcome : goal.returns-in_err-edit_outcome
unfolding slot_to_remove
returns-in_err-edit_outcome c = exit_answer _ _ _ _ _ c.from_residual.ensures.1 c.in_err-edit_outcome.ensures

pub first_live-requires : goal.first_live-requires
first_live-requires c = live-few _ (edit-live _ _ _ (passed _ c.in_ok-edit_outcome.ensures))

pub returns : goal.returns
unfolding slot_to_remove slot_with
returns c = passed_call _ _ _ c.in_ok-edit_outcome.ensures (slot_told _ _ 5 c.ok_or.ensures.value refl c.first_live.ensures)
