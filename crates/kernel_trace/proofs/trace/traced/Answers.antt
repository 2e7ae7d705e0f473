-- `kernel_trace::traced` meets its contract. Assumes nothing.
use Rattle.rules.proofs.Kit.{arith, sym, ap, ◌∙◌}
use Rattle.kernel_stop.specs.Stop.{told_stop}
use Rattle.kernel_stop.proofs.Stops.{open-decision, open-counts, stopped-decision, stopped-counts}
use Rattle.kernel_decide.proofs.Wholes.{whole-counts, whole-decides}
use Rattle.kernel_scan.proofs.Scanning.{start_room}
use Rattle.kernel_trace.proofs.{Traces.traced_told}
use Rattle.kernel_trace.proofs.trace.traced.Goals as goal

pub returns-in-Some : goal.returns-in-Some
returns-in-Some c =
    let told = sym (ap told_stop c.in-Some.is) ∙ c.stopped_by.ensures in
    traced_told _ _ _ (c.rejection_for-decision.ensures ∙ sym (stopped-decision _ _ _ told _))
    (c.no_counts.ensures ∙ sym (stopped-counts _ _ _ told _)) c.trace_of.ensures

pub scan_on-state-requires : goal.scan_on-state-requires
scan_on-state-requires c = (c.pricing_for-pricing.ensures.1, start_room _ c.start.ensures (omega arith))

pub returns : goal.returns
returns c =
    let told = sym (ap told_stop c.in_default.is) ∙ c.stopped_by.ensures in
    let priced = c.pricing_for-pricing.ensures.0 in
    traced_told _ _ _
    (c.decision_of_scan-decision.ensures ∙ whole-decides _ _ _ priced c.start.ensures c.scan_on-state.ensures ∙ sym (open-decision _ _ told _))
    (whole-counts _ _ _ priced c.start.ensures c.scan_on-state.ensures ∙ sym (open-counts _ _ told _))
    c.trace_of-2.ensures
