-- `live_bounds::what_would_win` meets its contract. Assumes nothing.
use Rattle.rules.proofs.Kit.{refl, sym, ap, ◌∙◌}
use Rattle.rules.specs.{Levers.boundary_refused, Levers.told_bounds, Live.live_what_would_win_of}
use Rattle.rules.proofs.{Faults.exit_is, Faults.unless_none, Faults.unless_refused, Slots.live-few, Slots.live-length}
use Rattle.live_slots.proofs.{Told.number_refused, Told.number_passed, Among.live-read, Among.live-among}
use Rattle.live_bounds.proofs.what_would_win.Goals as goal

pub returns-in_err-many : goal.returns-in_err-many
unfolding live_what_would_win_of
returns-in_err-many c =
    ap told_bounds (exit_is _ _ c.from_residual.ensures.1) ∙ sym (unless_refused _ boundary_refused _ refl (number_refused _ _ _ c.in_err-many.ensures))

pub first_live-requires : goal.first_live-requires
first_live-requires c = live-few _ (number_passed _ _ _ c.in_ok-many.ensures).0

pub win_among-requires : goal.win_among-requires
win_among-requires c =
    let (clean, many) = number_passed _ _ _ c.in_ok-many.ensures in
    (rw (live-read _ clean _ many) c.first_live.ensures, live-among _ clean _ many, live-length _ clean)

pub returns : goal.returns
unfolding live_what_would_win_of
returns c =
    let (clean, many) = number_passed _ _ _ c.in_ok-many.ensures in
    (rw (live-read _ clean _ many) at c.win_among.ensures) ∙ sym (unless_none _ boundary_refused _ clean)
