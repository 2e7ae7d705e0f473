-- `call_checks::first_listed` meets its contract. The loop's invariant: the records passed do not have the id. Assumes nothing.
use Rattle.rules.proofs.Kit.{arith, sym, ap, ◌∙◌}
use Rattle.rules.specs.{declared.records.KernelModel.KernelModel}
use Rattle.call_checks.proofs.{Finding.found_here, Finding.found-later, Finding.found_none}
use Rattle.call_checks.proofs.listing.first_listed.Goals as goal

pub returns-then-model_at-id : goal.returns-then-model_at-id
returns-then-model_at-id c =
    let e = ap (λ (x : KernelModel). x.model_id) (sym c.model_at.ensures) ∙ c.if-model_at-id.true in
    sym (c.loop-place.invariant ∙ found_here _ _ _ c.loop-place-test.true e)

pub loop-place-preserved : goal.loop-place-preserved
loop-place-preserved c =
    let e = ap (λ (x : KernelModel). x.model_id) c.model_at.ensures in
    c.loop-place.invariant ∙ found-later _ _ _ c.loop-place-test.true (λ k. c.if-model_at-id.false (e ∙ k))

pub returns : goal.returns
returns c = sym (c.loop-place.invariant ∙ found_none _ _ _ (omega arith))
