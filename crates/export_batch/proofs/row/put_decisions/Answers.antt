-- `export_batch::row::put_decisions` meets its contract. Assumes nothing.
use Rattle.rules.proofs.Kit.{arith}
use Rattle.live_slots.specs.Among.{among_of}
use Rattle.export_batch.proofs.{Rows.told_none, Rows.told_more, Rows.told-all}
use Rattle.export_batch.proofs.row.put_decisions.Goals as goal

pub loop-i-init : goal.loop-i-init
loop-i-init c = told_none _ _ _ _

pub loop-i-preserved : goal.loop-i-preserved
loop-i-preserved c =
    let l = c.loop-i in
    told_more _ _ _ _ l.i _ _ (omega (arith, c.loop-i-test.true, c.requires.2)) l.invariant c.input_at.ensures c.decision_among-decision.ensures
    c.uncounted_bytes.ensures c.put_bytes.ensures

pub returns : goal.returns
returns c =
    let l = c.loop-i in
    let a = c.args in
    told-all a.policy (among_of a.many a.bank.now) a.requests.now a.out.now l.i a.count (omega arith) l.invariant
