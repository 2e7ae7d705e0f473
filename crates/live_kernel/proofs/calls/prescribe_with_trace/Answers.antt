-- `live_kernel::prescribe_with_trace` meets its contract. Assumes nothing.
use Rattle.rules.proofs.Kit.{ap, ◌∙◌}
use Rattle.rules.proofs.Faults.{exit_answer}
use Rattle.rules.specs.{Refused.answered, Decide.traced_of, Live.live_prescribe_traced_of}
use Rattle.live_slots.proofs.Told.{number_refused}
use Rattle.kernel_among.proofs.Lives.{slots_clean, slots-among, slots-answer}
use Rattle.live_kernel.proofs.calls.prescribe_with_trace.Goals as goal

pub returns-in_err-many : goal.returns-in_err-many
unfolding live_prescribe_traced_of
returns-in_err-many c = exit_answer _ _ _ _ _ c.from_residual.ensures.1 (number_refused _ _ _ c.in_err-many.ensures)

pub traced_among-requires : goal.traced_among-requires
traced_among-requires c = slots-among _ _ c.in_ok-many.ensures

pub returns : goal.returns
unfolding live_prescribe_traced_of
returns c =
    let told = c.in_ok-many.ensures in
    ap answered c.traced_among.ensures ∙ slots-answer _ _ told _ (slots_clean _ _ told) (traced_of _ _)
