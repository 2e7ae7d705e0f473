-- `explain_walk::next_eligible` meets its contract. Assumes nothing.
use Rattle.rules.proofs.Kit.{sym, ◌∙◌}
use Rattle.explain_walk.proofs.{Walk.verdict_byte, Walk.next_here, Walk.next-later, Walk.next-none}
use Rattle.explain_walk.proofs.next_eligible.Goals as goal

pub returns-then-list-place-eq-ELIGIBLE : goal.returns-then-list-place-eq-ELIGIBLE
returns-then-list-place-eq-ELIGIBLE c =
    let l = c.loop-place in
    sym (l.invariant ∙ next_here _ l.place c.loop-place-test.true (verdict_byte _ l.place c.loop-place-test.true ∙ c.if-list-place-eq-ELIGIBLE.true))

pub loop-place-preserved : goal.loop-place-preserved
loop-place-preserved c =
    let l = c.loop-place in
    l.invariant ∙ next-later _ l.place c.loop-place-test.true (λ e. c.if-list-place-eq-ELIGIBLE.false (sym (verdict_byte _ l.place c.loop-place-test.true) ∙ e))

pub returns : goal.returns
returns c =
    let l = c.loop-place in
    sym (l.invariant ∙ next-none _ l.place c.loop-place-test.false)
