-- `kernel_among::decide_among` meets its contract. Assumes nothing.
use Rattle.rules.proofs.Kit.{arith, sym, ap, ◌∙◌}
use Rattle.kernel_scan.proofs.Scanning.{start_room}
use Rattle.kernel_stop.specs.Stop.{told_stop}
use Rattle.kernel_stop.proofs.Stops.{open-decision, open-counts, stopped-decision, stopped-counts}
use Rattle.kernel_decide.proofs.Wholes.{whole-state}
use Rattle.kernel_among.proofs.{Tops.open-top, Tops.stopped-top, Tops.start_counts, Fewer.enough-off, Fewer.read-decides, Fewer.read-counts}
use Rattle.kernel_among.proofs.{Fewer.read-top}
use Rattle.kernel_among.proofs.among.decide_among.Goals as goal

pub returns-in-Some : goal.returns-in-Some
returns-in-Some c =
    let told = sym (ap told_stop c.in-Some.is) ∙ c.stopped_by.ensures in
    let begun = c.start-nothing.ensures in
    record {
      decision = c.rejection_for.ensures ∙ sym (stopped-decision _ _ _ told _);
      counts = start_counts begun ∙ sym (stopped-counts _ _ _ told _);
      top = stopped-top _ _ _ _ told begun;
    }

pub scan_on-all-requires : goal.scan_on-all-requires
scan_on-all-requires c =
    let seen = c.requires in
    (c.pricing_for-pricing.ensures.1, start_room _ c.start.ensures (omega (arith, seen.few)))

pub less_off-state-requires : goal.less_off-state-requires
less_off-state-requires c =
    enough-off _ _ _ _ c.requires (whole-state c.args.policy c.args.input _ c.pricing_for-pricing.ensures.0 c.start.ensures c.scan_on-all.ensures)

pub returns : goal.returns
returns c =
    let told = sym (ap told_stop c.in_default.is) ∙ c.stopped_by.ensures in
    let run = whole-state _ _ _ c.pricing_for-pricing.ensures.0 c.start.ensures c.scan_on-all.ensures in
    let less = c.less_off-state.ensures in
    record {
      decision = c.decision_of_scan.ensures ∙ read-decides _ _ _ _ c.requires run less ∙ sym (open-decision _ _ told _);
      counts = read-counts _ _ _ _ c.requires run less ∙ sym (open-counts _ _ told _);
      top = read-top _ _ _ _ c.requires run less ∙ open-top _ _ _ told run;
    }
