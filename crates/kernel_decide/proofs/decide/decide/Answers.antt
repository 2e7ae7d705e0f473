-- `kernel_decide::decide` meets its contract. Assumes nothing.
use Rattle.rules.proofs.Kit.{arith, sym, ap, ◌∙◌}
use Rattle.kernel_stop.specs.Stop.{told_stop}
use Rattle.kernel_stop.proofs.Stops.{open-decision, stopped-decision}
use Rattle.kernel_scan.proofs.Scanning.{start_room}
use Rattle.kernel_decide.proofs.{Wholes.whole-decides}
use Rattle.kernel_decide.proofs.decide.decide.Goals as goal

pub returns-in-Some : goal.returns-in-Some
returns-in-Some c =
    c.rejection_for.ensures ∙ sym (stopped-decision _ _ _ (sym (ap told_stop c.in-Some.is) ∙ c.stopped_by.ensures) _)

pub scan_on-requires : goal.scan_on-requires
scan_on-requires c = (c.pricing_for-pricing.ensures.1, start_room _ c.start.ensures (omega arith))

pub returns : goal.returns
returns c =
    c.decision_of_scan.ensures
    ∙ whole-decides _ _ _ c.pricing_for-pricing.ensures.0 c.start.ensures c.scan_on.ensures
    ∙ sym (open-decision _ _ (sym (ap told_stop c.in_default.is) ∙ c.stopped_by.ensures) _)
