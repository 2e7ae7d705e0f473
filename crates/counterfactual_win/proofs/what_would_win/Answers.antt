-- `counterfactual_win::what_would_win` meets its contract. Assumes nothing.
use Rattle.rules.proofs.Kit.{arith, refl, sym, ap, ◌∙◌}
use Rattle.rules.specs.{Levers.boundary_refused, Levers.told_bounds, Win.what_would_win_of}
use Rattle.rules.proofs.Faults.{bank_room, exit_is, few_records, passed, unless-passed, unless_refused}
use Rattle.live_slots.proofs.Among.{all_read, all_among}
use Rattle.counterfactual_win.proofs.what_would_win.Goals as goal

pub returns-in_err-bank_outcome : goal.returns-in_err-bank_outcome
unfolding what_would_win_of
returns-in_err-bank_outcome c =
    ap told_bounds (exit_is _ _ c.from_residual.ensures.1) ∙ sym (unless_refused _ boundary_refused _ refl c.in_err-bank_outcome.ensures)

pub overflow_cast-many : goal.overflow_cast-many
overflow_cast-many c = omega (arith, bank_room _ refl c.in_ok-bank_outcome.ensures)

pub first_listed-requires : goal.first_listed-requires
first_listed-requires c = bank_room _ refl c.in_ok-bank_outcome.ensures

pub win_among-requires : goal.win_among-requires
win_among-requires c =
    let h = passed _ c.in_ok-bank_outcome.ensures in
    (rw all_read c.first_listed.ensures, all_among _ (few_records _ h), h)

pub returns : goal.returns
unfolding what_would_win_of
returns c = (rw all_read at c.win_among.ensures) ∙ sym (unless-passed _ boundary_refused _ refl c.in_ok-bank_outcome.ensures)
