-- `live_kernel::utility_for_model` meets its contract. Assumes nothing.
use Rattle.rules.proofs.Kit.{sym, ◌∙◌}
use Rattle.rules.proofs.{Faults.exit_answer, Faults.unless_none, Slots.live-few}
use Rattle.rules.specs.{Refused.refused, Live.live_utility_for_model_of}
use Rattle.live_slots.proofs.Told.{number_refused}
use Rattle.kernel_among.proofs.Lives.{slots_clean}
use Rattle.live_kernel.proofs.{Utilities.utility-none, Utilities.utility-live}
use Rattle.live_kernel.proofs.single.utility_for_model.Goals as goal

pub returns-in_err-read_slots : goal.returns-in_err-read_slots
unfolding live_utility_for_model_of
returns-in_err-read_slots c = exit_answer _ _ _ _ _ c.from_residual.ensures.1 (number_refused _ _ _ c.in_err-read_slots.ensures)

pub returns-then-id-eq0 : goal.returns-then-id-eq0
unfolding live_utility_for_model_of
returns-then-id-eq0 c =
    sym (unless_none _ refused _ (slots_clean _ _ c.in_ok-read_slots.ensures) ∙ utility-none _ _ _ _ c.if-id-eq0.true)

pub utility_in-requires : goal.utility_in-requires
utility_in-requires c = live-few _ (slots_clean _ _ c.in_ok-read_slots.ensures)

pub returns : goal.returns
unfolding live_utility_for_model_of
returns c =
    c.utility_in.ensures ∙ utility-live _ _ _ _ c.if-id-eq0.false ∙ sym (unless_none _ refused _ (slots_clean _ _ c.in_ok-read_slots.ensures))
