-- `catalogue::reserved_outcome` meets its contract. Assumes nothing.
use Rattle.rules.proofs.Kit.{arith, ◌∙◌}
use Rattle.rules.specs.{Refused.first_fault, Refused.told_outcome}
use Rattle.catalogue.proofs.{Walks.reserved-here, Walks.reserved-later, Walks.reserved-none}
use Rattle.catalogue.proofs.loading.reserved_outcome.Goals as goal

pub returns-then-id_at-eq0 : goal.returns-then-id_at-eq0
unfolding first_fault told_outcome
returns-then-id_at-eq0 c =
    let l = c.loop-place in rw (l.invariant ∙ reserved-here _ l.place _ c.loop-place-test.true c.id_at.ensures c.if-id_at-eq0.true)

pub loop-place-preserved : goal.loop-place-preserved
loop-place-preserved c =
    let l = c.loop-place in l.invariant ∙ reserved-later _ l.place _ c.loop-place-test.true c.id_at.ensures c.if-id_at-eq0.false

pub returns : goal.returns
unfolding first_fault told_outcome
returns c = rw (c.loop-place.invariant ∙ reserved-none _ c.loop-place.place (omega arith))
