-- `live_kernel::prescribe_checked` meets its contract. Assumes nothing.
use Rattle.rules.proofs.Kit.{ap, ◌∙◌}
use Rattle.rules.proofs.Faults.{exit_answer, none_first}
use Rattle.rules.specs.{Refused.answered, Live.live_prescribe_checked_of}
use Rattle.live_slots.proofs.Told.{number_refused, number_passed}
use Rattle.live_slots.proofs.Among.{live-among, live-read}
use Rattle.live_kernel.proofs.calls.prescribe_checked.Goals as goal

pub returns-in_err-many : goal.returns-in_err-many
unfolding live_prescribe_checked_of
returns-in_err-many c = exit_answer _ _ _ _ _ c.from_residual.ensures.1 (number_refused _ _ _ c.in_err-many.ensures)

pub decision_among-requires : goal.decision_among-requires
decision_among-requires c =
    let read = number_passed _ _ _ c.in_ok-many.ensures in live-among _ (none_first _ _ read.0) _ read.1

pub returns : goal.returns
unfolding live_prescribe_checked_of
returns c =
    let read = number_passed _ _ _ c.in_ok-many.ensures in
    ap answered c.decision_among.ensures ∙ rw (read.0, live-read _ (none_first _ _ read.0) _ read.1)
