-- `program_sentences::put_price` meets its contract. The loop's invariant: the price's sentence is that of the levers still to come, since none before
-- is it. Assumes nothing.
use Rattle.rules.proofs.Kit.{◌≡◌, ◌∙◌, refl}
use Rattle.program_sentences.proofs.Joins.{price_found, price_passed, price_none}
use Rattle.program_sentences.proofs.put_price.Goals as goal

pub loop-lever-init : goal.loop-lever-init
loop-lever-init c =
    let rest : c.into_iter-lever-iterator.result.iter.rest.now ≡ c.args.levers.levers = cc in
    let count : c.into_iter-lever-iterator.result.n ≡ c.args.levers.count = cc in
    record { kept = refl; price = rw (rest, count) refl }

pub returns-then-lever-eq3-clause-out_after : goal.returns-then-lever-eq3-clause-out_after
returns-then-lever-eq3-clause-out_after c =
    let l = c.loop-lever.invariant in
    let next = c.in-Some.ensures.steps in
    rw (l.price, price_found _ _ _ next.1 next.0 c.if-lever-eq3.true) (rw l.kept at c.put_fall.ensures.out_after)

pub loop-lever-preserved : goal.loop-lever-preserved
loop-lever-preserved c =
    let next = c.in-Some.ensures.steps in
    record { kept = c.loop-lever.invariant.kept; price = c.loop-lever.invariant.price ∙ price_passed _ _ _ next.1 next.0 c.if-lever-eq3.false }

pub returns-clause-out_after : goal.returns-clause-out_after
returns-clause-out_after c =
    let l = c.loop-lever.invariant in
    rw (l.price, price_none _ _ (λ h. (c.in-None.ensures.steps h).0)) (rw l.kept at c.put_no_price.ensures.out_after)
