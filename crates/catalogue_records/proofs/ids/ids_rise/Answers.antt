-- `catalogue_records::ids_rise` meets its contract. Assumes nothing.
use Rattle.rules.proofs.Kit.{arith, sym, ◌∙◌}
use Rattle.catalogue_records.proofs.{Rising.rises-no, Rising.rises-on, Rising.rises-all}
use Rattle.catalogue_records.proofs.ids.ids_rise.Goals as goal

pub returns-then-id-least : goal.returns-then-id-least
returns-then-id-least c =
    let l = c.loop-place in
    sym (l.invariant ∙ rises-no _ _ l.place _ c.loop-place-test.true (c.from-id.ensures ∙ c.id_at.ensures) c.if-id-least.true)

pub loop-place-preserved : goal.loop-place-preserved
loop-place-preserved c =
    let l = c.loop-place in
    l.invariant ∙ rises-on _ _ l.place _ c.loop-place-test.true (c.from-id.ensures ∙ c.id_at.ensures) c.if-id-least.false

pub returns : goal.returns
returns c = sym (c.loop-place.invariant ∙ rises-all _ _ c.loop-place.place (omega arith))
