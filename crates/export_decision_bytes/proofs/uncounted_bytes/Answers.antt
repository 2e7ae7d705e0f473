-- `export_decision_bytes::uncounted_bytes` meets its contract: each write fills in one more field. Assumes nothing.
use Rattle.rules.proofs.Kit.{rules}
use Rattle.rules.proofs.Kit.{◌≡◌, refl, arith, lit≤, replicate, w64, of_z}
use Rattle.rules.specs.Numbers.{action_no, reason_no}
use Rattle.packing.proofs.Packing.{laid_none, laid_more, laid_all}
use Rattle.export_decision_bytes.specs.Layout.{uncounted_size, uncounted_bytes}
use Rattle.export_decision_bytes.proofs.{Bytes.action_patch}
use Rattle.export_decision_bytes.proofs.uncounted_bytes.Goals as goal

pub returns : goal.returns
unfolding uncounted_bytes
returns c =
    let d = c.args.decision in
    let expected : c.signed_bits.result ≡ of_z w64 d.expected_utility_microunits = search rules in
    let other : c.signed_bits-2.result ≡ of_z w64 d.counterfactual_utility_microunits = search rules in
    let l0 = laid_none (replicate uncounted_size 0) in
    let l1 = laid_more l0 0 8 d.request_sequence c.put64.ensures refl (lit≤ tt) in
    let l2 = laid_more l1 8 1 (action_no d.action) (action_patch _ 8 d.action (omega arith) c.number.ensures) refl (lit≤ tt) in
    let l3 = laid_more l2 9 2 (reason_no d.reason) (rw c.number-2.ensures at c.put16.ensures) refl (lit≤ tt) in
    let l4 = laid_more l3 11 4 d.selected_model_id c.put32.ensures refl (lit≤ tt) in
    let l5 = laid_more l4 15 2 d.selected_model_index c.put16-2.ensures refl (lit≤ tt) in
    let l6 = laid_more l5 17 8 d.estimated_cost_microunits c.put64-2.ensures refl (lit≤ tt) in
    let l7 = laid_more l6 25 8 (of_z w64 d.expected_utility_microunits) (rw expected at c.put64-3.ensures) refl (lit≤ tt) in
    let l8 = laid_more l7 33 4 d.counterfactual_model_id c.put32-2.ensures refl (lit≤ tt) in
    let l9 = laid_more l8 37 8 (of_z w64 d.counterfactual_utility_microunits) (rw other at c.put64-4.ensures) refl (lit≤ tt) in
    let l10 = laid_more l9 45 2 d.evaluated_models c.put16-3.ensures refl (lit≤ tt) in
    let l11 = laid_more l10 47 2 d.eligible_models c.put16-4.ensures refl (lit≤ tt) in
    let l12 = laid_more l11 49 8 d.policy_epoch c.put64-5.ensures refl (lit≤ tt) in
    let l13 = laid_more l12 57 8 d.catalog_epoch c.put64-6.ensures refl (lit≤ tt) in
    laid_all l13 refl
