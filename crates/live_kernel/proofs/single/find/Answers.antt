-- `live_kernel::find` meets its contract. Assumes nothing.
use Rattle.rules.proofs.Kit.{sym, ap, ◌∙◌}
use Rattle.rules.proofs.{Faults.exit_answer, Faults.unless_none, Slots.live-few}
use Rattle.rules.specs.{Refused.refused, Refused.answered, Live.live_find_of}
use Rattle.live_slots.proofs.Told.{number_refused}
use Rattle.kernel_among.proofs.Lives.{slots_clean}
use Rattle.live_kernel.proofs.single.find.Goals as goal

pub returns-in_err-read_slots : goal.returns-in_err-read_slots
unfolding live_find_of
returns-in_err-read_slots c = exit_answer _ _ _ _ _ c.from_residual.ensures.1 (number_refused _ _ _ c.in_err-read_slots.ensures)

pub first_live-requires : goal.first_live-requires
first_live-requires c = live-few _ (slots_clean _ _ c.in_ok-read_slots.ensures)

pub returns : goal.returns
unfolding live_find_of
returns c = ap answered c.first_live.ensures ∙ sym (unless_none _ refused _ (slots_clean _ _ c.in_ok-read_slots.ensures))
