-- `live_edits::slot_to_add` meets its contract. Assumes nothing.
use Rattle.rules.proofs.Kit.{refl}
use Rattle.rules.specs.{Slots.lowest_free}
use Rattle.rules.proofs.{Faults.exit_answer, Faults.passed, Faults.passed_call, Slots.live-few}
use Rattle.live_edits.specs.Placing.{slot_to_take}
use Rattle.live_edits.proofs.{Chosen.slot_told, Chosen.add-live}
use Rattle.live_edits.proofs.placing.slot_to_add.Goals as goal

pub returns-in_err-add_outcome : goal.returns-in_err-add_outcome
unfolding slot_to_take
returns-in_err-add_outcome c = exit_answer _ _ _ _ _ c.from_residual.ensures.1 c.in_err-add_outcome.ensures

pub first_listed-requires : goal.first_listed-requires
first_listed-requires c = live-few _ (add-live _ _ _ (passed _ c.in_ok-add_outcome.ensures))

pub returns : goal.returns
unfolding slot_to_take lowest_free
returns c = passed_call _ _ _ c.in_ok-add_outcome.ensures (slot_told _ _ 28 c.ok_or.ensures.value refl c.first_listed.ensures)
