-- `catalogue_validation::off_outcome` meets its contract. Assumes nothing.
use Rattle.rules.proofs.Kit.{arith, ◌∙◌}
use Rattle.rules.specs.{Refused.first_fault, Refused.told_outcome}
use Rattle.catalogue_validation.proofs.{Walks.on-here, Walks.off-here, Walks.off-all}
use Rattle.catalogue_validation.proofs.off_outcome.Goals as goal

pub returns-then-model_at-ne0 : goal.returns-then-model_at-ne0
unfolding first_fault told_outcome
returns-then-model_at-ne0 c =
    let l = c.loop-place in
    rw (l.invariant ∙ on-here _ l.place _ c.loop-place-test.true c.model_at.ensures c.if-model_at-ne0.true)

pub loop-place-preserved : goal.loop-place-preserved
loop-place-preserved c =
    let l = c.loop-place in
    l.invariant ∙ off-here _ l.place _ c.loop-place-test.true c.model_at.ensures (omega arith)

pub returns : goal.returns
unfolding first_fault told_outcome
returns c = rw (c.loop-place.invariant ∙ off-all _ c.loop-place.place (omega arith))
