-- `export_decision_bytes::decision_bytes` meets its contract: each write fills in one more count. Assumes nothing.
use Rattle.rules.proofs.Kit.{refl, lit≤, replicate}
use Rattle.rules.specs.Numbers.{told_decision}
use Rattle.packing.proofs.Packing.{laid_more, laid_all}
use Rattle.export_decision_bytes.specs.Layout.{decision_size, decision_bytes}
use Rattle.export_decision_bytes.proofs.{Bytes.laid_decision}
use Rattle.export_decision_bytes.proofs.decision_bytes.Goals as goal

pub returns : goal.returns
unfolding decision_bytes
returns c =
    let a = c.args in
    let n = a.trace.rejections in
    let l0 = laid_decision (replicate decision_size 0) (told_decision a.decision) c.uncounted_bytes.ensures c.put_bytes.ensures in
    let l1 = laid_more l0 65 2 n.disabled c.put16.ensures refl (lit≤ tt) in
    let l2 = laid_more l1 67 2 n.quality c.put16-2.ensures refl (lit≤ tt) in
    let l3 = laid_more l2 69 2 n.risk_ceiling c.put16-3.ensures refl (lit≤ tt) in
    let l4 = laid_more l3 71 2 n.latency c.put16-4.ensures refl (lit≤ tt) in
    let l5 = laid_more l4 73 2 n.capability c.put16-5.ensures refl (lit≤ tt) in
    let l6 = laid_more l5 75 2 n.provider c.put16-6.ensures refl (lit≤ tt) in
    let l7 = laid_more l6 77 2 n.region c.put16-7.ensures refl (lit≤ tt) in
    let l8 = laid_more l7 79 2 n.budget c.put16-8.ensures refl (lit≤ tt) in
    let l9 = laid_more l8 81 2 n.utility c.put16-9.ensures refl (lit≤ tt) in
    laid_all l9 refl
