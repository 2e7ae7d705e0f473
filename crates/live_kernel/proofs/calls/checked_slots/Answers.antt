-- `live_kernel::checked_slots` meets its contract. Assumes nothing.
use Rattle.rules.proofs.Kit.{refl, ap}
use Rattle.rules.proofs.Faults.{append_refused, exit_answer, passed}
use Rattle.rules.specs.Refused.{answered}
use Rattle.live_slots.proofs.Told.{number_refused, number_passed}
use Rattle.live_kernel.proofs.calls.checked_slots.Goals as goal

pub returns-in_err-live : goal.returns-in_err-live
returns-in_err-live c =
    exit_answer _ _ _ _ _ c.from_residual.ensures.1 (append_refused _ _ refl (number_refused _ _ _ c.in_err-live.ensures))

pub returns-in_err-input_outcome : goal.returns-in_err-input_outcome
returns-in_err-input_outcome c =
    let read = number_passed _ _ _ c.in_ok-live.ensures in
    rw read.0 (exit_answer _ _ _ _ _ c.from_residual-in_err-input_outcome.ensures.1 c.in_err-input_outcome.ensures)

pub returns : goal.returns
returns c =
    let read = number_passed _ _ _ c.in_ok-live.ensures in
    rw (read.0, passed _ c.in_ok-input_outcome.ensures) (ap answered read.1)
