-- `catalogue::flag_outcome` meets its contract. Assumes nothing.
use Rattle.rules.proofs.Kit.{arith, ◌∙◌}
use Rattle.rules.specs.{Refused.first_fault, Refused.told_outcome}
use Rattle.catalogue.proofs.{Walks.flag-here, Walks.flag-later, Walks.flag-none}
use Rattle.catalogue.proofs.loading.flag_outcome.Goals as goal

pub returns-then-model-gt1 : goal.returns-then-model-gt1
unfolding first_fault told_outcome
returns-then-model-gt1 c =
    let l = c.loop-place in rw (l.invariant ∙ flag-here _ l.place _ c.loop-place-test.true c.model_at-model.ensures c.if-model-gt1.true)

pub loop-place-preserved : goal.loop-place-preserved
loop-place-preserved c =
    let l = c.loop-place in l.invariant ∙ flag-later _ l.place _ c.loop-place-test.true c.model_at-model.ensures c.if-model-gt1.false

pub returns : goal.returns
unfolding first_fault told_outcome
returns c = rw (c.loop-place.invariant ∙ flag-none _ c.loop-place.place (omega arith))
