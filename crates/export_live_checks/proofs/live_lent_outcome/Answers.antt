-- `export_live_checks::live_lent_outcome` meets its contract. Assumes nothing.
use Rattle.rules.proofs.Kit.{refl, sym, ap}
use Rattle.rules.specs.Refused.{refused, answered}
use Rattle.rules.proofs.Faults.{unless_refused, room_short, room_enough}
use Rattle.live_slots.proofs.Told.{number_refused, number_passed}
use Rattle.export_live_checks.proofs.{Openings.exit_number}
use Rattle.export_live_checks.proofs.live_lent_outcome.Goals as goal

pub returns-in_err-live : goal.returns-in_err-live
returns-in_err-live c = exit_number _ _ _ _ _ c.from_residual.ensures.1 (number_refused _ _ _ c.in_err-live.ensures)

pub returns-then-room-needed : goal.returns-then-room-needed
returns-then-room-needed c =
    let p = number_passed _ _ _ c.in_ok-live.ensures in
    rw p.0 (sym (unless_refused _ refused _ refl (room_short _ _ c.if-room-needed.true)))

pub returns : goal.returns
returns c =
    let p = number_passed _ _ _ c.in_ok-live.ensures in
    rw (p.0, room_enough _ _ c.if-room-needed.false) (ap answered p.1)
