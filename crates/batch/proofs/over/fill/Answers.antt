-- `batch::over::fill` meets its contract. Assumes nothing.
use Rattle.rules.proofs.Kit.{◌≡◌, sym, ap, ◌∙◌, arith, List, map, length, set, length-map}
use Rattle.rules.specs.{Numbers.told_decision, Numbers.Decision, Batch.decisions_of}
use Rattle.live_slots.specs.Among.{among_of}
use Rattle.batch.proofs.{Filling.own, Filling.after, Filling.after_none, Filling.after-step, Filling.at_last, Filling.map-set}
use Rattle.batch.proofs.over.fill.Goals as goal

pub loop-place-init : goal.loop-place-init
loop-place-init c = sym (after_none _ _ _)

pub loop-place-preserved : goal.loop-place-preserved
loop-place-preserved c =
    let a = c.args in
    let l = c.loop-place in
    let f = own a.policy (among_of a.many a.bank.now) in
    let row = map told_decision a.row.now in
    map-set told_decision l.row l.place c.decision_among.result
    ∙ ap (λ (r : List Decision). set r l.place (told_decision c.decision_among.result)) l.invariant
    ∙ ap (λ (d : Decision). set (after f a.inputs.now row l.place) l.place d) c.decision_among.ensures
    ∙ after-step f a.inputs.now row l.place _ c.loop-place-test.true (omega (arith, length-map a.row.now told_decision))

pub returns : goal.returns
unfolding decisions_of
returns c =
    let a = c.args in
    let f = own a.policy (among_of a.many a.bank.now) in
    let row = map told_decision a.row.now in
    let e : c.loop-place.place ≡ length a.inputs.now = omega arith in
    c.loop-place.invariant ∙ ap (after f a.inputs.now row) e ∙ at_last f a.inputs.now row
