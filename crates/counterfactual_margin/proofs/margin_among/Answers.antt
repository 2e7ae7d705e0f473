-- `counterfactual_margin::margin_among` meets its contract. Assumes nothing.
use Rattle.rules.proofs.Kit.{refl, sym, ap, ◌∙◌}
use Rattle.rules.specs.Levers.{told_bounds}
use Rattle.std.specs.Prelude.{Err}
use Rattle.rules.proofs.Faults.{exit_is}
use Rattle.call_checks.proofs.Finding.{found_at}
use Rattle.counterfactual_pass.proofs.Listed.{stands_at}
use Rattle.counterfactual_answer.proofs.Rooms.{answer_made}
use Rattle.counterfactual_margin.proofs.{Margins.place_found, Margins.place_missing, Margins.margin-rejected, Margins.margin-nowhere, Margins.margin-listed}
use Rattle.counterfactual_margin.proofs.{Margins.chosen-free}
use Rattle.counterfactual_margin.proofs.margin_among.Goals as goal

pub returns-then-is_rejected : goal.returns-then-is_rejected
returns-then-is_rejected c = sym (margin-rejected _ _ _ _ c.decide_among-opening.ensures.decision (sym c.is_rejected.ensures ∙ c.if-is_rejected.true))

pub returns-in_err-place : goal.returns-in_err-place
returns-in_err-place c =
    let lost = place_missing _ _ c.in_err-place.ensures.value c.first_listed.ensures in
    ap told_bounds (exit_is _ _ c.from_residual.ensures.1 ∙ ap Err lost.1)
    ∙ sym (margin-nowhere _ _ _ _ c.decide_among-opening.ensures.decision (sym c.is_rejected.ensures ∙ c.if-is_rejected.false) c.requires.0 lost.0)

pub asked_at-asked-requires : goal.asked_at-asked-requires
asked_at-asked-requires c = (found_at _ _ _ (place_found _ _ c.in_ok-place.ensures.value c.first_listed.ensures)).1

pub margin_levers-requires : goal.margin_levers-requires
margin_levers-requires c =
    stands_at _ _ _ _ _ c.asked_at-asked.ensures c.decide_among-opening.ensures.top (place_found _ _ c.in_ok-place.ensures.value c.first_listed.ensures)
    c.requires.1 (chosen-free _ _ _ _ c.decide_among-opening.ensures.decision (sym c.is_rejected.ensures ∙ c.if-is_rejected.false))

pub returns : goal.returns
returns c =
    answer_made _ _ _ refl c.margin_levers.ensures c.answered.ensures
    ∙ sym (margin-listed _ _ _ _ c.decide_among-opening.ensures.decision (sym c.is_rejected.ensures ∙ c.if-is_rejected.false) c.requires.0 _ _
    c.asked_at-asked.ensures (place_found _ _ c.in_ok-place.ensures.value c.first_listed.ensures))
