-- `explain::put_entries` meets its contract. The loop's invariant: the entries of those that are read among the first i records stand at the start
-- of the list. Assumes nothing.
use Rattle.rules.proofs.Kit.{arith, refl, sym, ap, ◌∙◌, length}
use Rattle.splice.proofs.Pieces.{written_length}
use Rattle.live_slots.specs.Among.{among_of}
use Rattle.explain_entries.proofs.Verdicts.{records_scanned}
use Rattle.explain.proofs.{Entries.told_none, Entries.told-skipped, Entries.told-room, Entries.told_more, Entries.told-all}
use Rattle.explain.proofs.{Entries.length-entry}
use Rattle.explain.proofs.list.put_entries.Goals as goal

pub loop-i-init : goal.loop-i-init
loop-i-init c =
    let a = c.args in
    record { fewer = omega arith; kept = refl; told = told_none c.pricing_for-pricing.result a.input a.many a.bank.now a.list.now }

pub loop-i-preserved-then-is_skipped : goal.loop-i-preserved-then-is_skipped
loop-i-preserved-then-is_skipped c =
    let l = c.loop-i in
    let t = told-skipped _ _ _ _ _ l.i c.loop-i-test.true l.entries c.model_at-model.result c.model_at-model.ensures
    (sym c.is_skipped.ensures ∙ c.if-is_skipped.true) l.invariant.told in
    record { fewer = omega (arith, l.invariant.fewer); kept = l.invariant.kept; told = t }

pub put_bytes-requires : goal.put_bytes-requires
put_bytes-requires c =
    let l = c.loop-i in
    -- where the slot isn't skipped there is room for one more
    let few = told-room _ _ _ _ _ l.i c.loop-i-test.true c.model_at-model.result c.model_at-model.ensures
    (sym c.is_skipped.ensures ∙ c.if-is_skipped.false) c.requires.0 l.entries l.invariant.told in
    omega (arith, ap length c.entry_bytes-entry.ensures ∙ length-entry _, few, l.invariant.kept, c.requires.1)

pub loop-i-preserved : goal.loop-i-preserved
loop-i-preserved c =
    let l = c.loop-i in
    -- where the slot isn't skipped there is room for one more
    let few = told-room _ _ _ _ _ l.i c.loop-i-test.true c.model_at-model.result c.model_at-model.ensures
    (sym c.is_skipped.ensures ∙ c.if-is_skipped.false) c.requires.0 l.entries l.invariant.told in
    let t = told_more _ _ _ _ _ l.i c.loop-i-test.true _ c.model_at-model.ensures (sym c.is_skipped.ensures ∙ c.if-is_skipped.false) l.entries _
    few c.requires.1 l.invariant.told (c.verdict_numbers-told.ensures ∙ c.candidate_verdict.ensures) c.entry_bytes-entry.ensures c.put_bytes.ensures in
    record { fewer = omega (arith, l.invariant.fewer); kept = written_length t; told = t }

pub returns : goal.returns
returns c =
    let l = c.loop-i in
    let a = c.args in
    told-all _ _ _ a.bank.now _ l.i l.entries (omega arith) l.invariant.told
    ∙ rw (c.pricing_for-pricing.ensures.0, records_scanned a.policy a.input (among_of a.many a.bank.now))
