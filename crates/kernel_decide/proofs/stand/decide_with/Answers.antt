-- `kernel_decide::decide_with` meets its contract. Assumes nothing.
use Rattle.rules.proofs.Kit.{sym, ap, ◌∙◌}
use Rattle.kernel_stop.specs.Stop.{told_stop}
use Rattle.kernel_stop.proofs.Stops.{open-decision, stopped-decision}
use Rattle.kernel_decide.proofs.{Wholes.parts_decide}
use Rattle.kernel_decide.proofs.stand.decide_with.Goals as goal

pub returns-in-Some : goal.returns-in-Some
returns-in-Some c =
    c.rejection_for.ensures ∙ sym (stopped-decision _ _ _ (sym (ap told_stop c.in-Some.is) ∙ c.stopped_by.ensures) _)

pub returns : goal.returns
returns c =
    c.decision_of_scan.ensures
    ∙ parts_decide _ _ _ _ _ c.pricing_for-pricing.ensures.0 c.scan_with-state.ensures
    ∙ sym (open-decision _ _ (sym (ap told_stop c.in_default.is) ∙ c.stopped_by.ensures) _)
