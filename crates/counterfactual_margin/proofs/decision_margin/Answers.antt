-- `counterfactual_margin::decision_margin` meets its contract. Assumes nothing.
use Rattle.rules.proofs.Kit.{arith, refl, sym, ap, ◌∙◌}
use Rattle.rules.specs.{Levers.boundary_refused, Levers.told_bounds, Margin.decision_margin_of}
use Rattle.rules.proofs.Faults.{bank_room, few_records, exit_is, passed, unless-passed, unless_refused}
use Rattle.live_slots.proofs.Among.{all_read, all_among}
use Rattle.counterfactual_margin.proofs.decision_margin.Goals as goal

pub returns-in_err-bank_outcome : goal.returns-in_err-bank_outcome
unfolding decision_margin_of
returns-in_err-bank_outcome c =
    ap told_bounds (exit_is _ _ c.from_residual.ensures.1) ∙ sym (unless_refused _ boundary_refused _ refl c.in_err-bank_outcome.ensures)

pub overflow_cast-many : goal.overflow_cast-many
overflow_cast-many c = omega (arith, bank_room _ refl c.in_ok-bank_outcome.ensures)

pub margin_among-requires : goal.margin_among-requires
margin_among-requires c =
    let h = passed _ c.in_ok-bank_outcome.ensures in
    (all_among _ (few_records _ h), h)

pub returns : goal.returns
unfolding decision_margin_of
returns c = (rw all_read at c.margin_among.ensures) ∙ sym (unless-passed _ boundary_refused _ refl c.in_ok-bank_outcome.ensures)
