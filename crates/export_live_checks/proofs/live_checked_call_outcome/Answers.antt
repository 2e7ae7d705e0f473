-- `export_live_checks::live_checked_call_outcome` meets its contract. Assumes nothing.
use Rattle.rules.proofs.Kit.{ap}
use Rattle.rules.specs.Refused.{answered}
use Rattle.rules.proofs.Faults.{exit_answer, passed}
use Rattle.live_slots.proofs.Told.{number_refused, number_passed}
use Rattle.export_live_checks.proofs.{Openings.exit_number, Openings.passed as call_passed}
use Rattle.export_live_checks.proofs.live_checked_call_outcome.Goals as goal

pub returns-in_err-live : goal.returns-in_err-live
returns-in_err-live c = exit_number _ _ _ _ _ c.from_residual.ensures.1 (number_refused _ _ _ c.in_err-live.ensures)

pub input_of-requires : goal.input_of-requires
input_of-requires c = (call_passed _ _ _ _ c.in_ok-live.ensures).request

pub returns-in_err-input_outcome : goal.returns-in_err-input_outcome
returns-in_err-input_outcome c =
    let p = number_passed _ _ _ c.in_ok-live.ensures in
    rw (p.0, ← c.input_of.ensures) (exit_answer _ _ _ _ _ c.from_residual-in_err-input_outcome.ensures.1 c.in_err-input_outcome.ensures)

pub returns : goal.returns
returns c =
    let p = number_passed _ _ _ c.in_ok-live.ensures in
    rw (p.0, ← c.input_of.ensures, passed _ c.in_ok-input_outcome.ensures) (ap answered p.1)
