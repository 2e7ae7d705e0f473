-- `live_bounds::decision_margin` meets its contract. Assumes nothing.
use Rattle.rules.proofs.Kit.{refl, sym, ap, ◌∙◌}
use Rattle.rules.specs.{Levers.boundary_refused, Levers.told_bounds, Live.live_decision_margin_of}
use Rattle.rules.proofs.{Faults.exit_is, Faults.unless_none, Faults.unless_refused, Slots.live-length}
use Rattle.live_slots.proofs.{Told.number_refused, Told.number_passed, Among.live-read, Among.live-among}
use Rattle.live_bounds.proofs.decision_margin.Goals as goal

pub returns-in_err-read_slots : goal.returns-in_err-read_slots
unfolding live_decision_margin_of
returns-in_err-read_slots c =
    ap told_bounds (exit_is _ _ c.from_residual.ensures.1) ∙ sym (unless_refused _ boundary_refused _ refl (number_refused _ _ _ c.in_err-read_slots.ensures))

pub margin_among-requires : goal.margin_among-requires
margin_among-requires c =
    let (clean, many) = number_passed _ _ _ c.in_ok-read_slots.ensures in
    (live-among _ clean _ many, live-length _ clean)

pub returns : goal.returns
unfolding live_decision_margin_of
returns c =
    let (clean, many) = number_passed _ _ _ c.in_ok-read_slots.ensures in
    (rw (live-read _ clean _ many) at c.margin_among.ensures) ∙ sym (unless_none _ boundary_refused _ clean)
