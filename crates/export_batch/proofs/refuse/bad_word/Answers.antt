-- `export_batch::refuse::bad_word` meets its contract. Assumes nothing.
use Rattle.rules.proofs.Kit.{arith, sym, ap, ◌∙◌}
use Rattle.rules.specs.{Refused.first_fault, Decide.request_faults}
use Rattle.export_batch.proofs.{Refusals.first_word, Refusals.bad_first, Refusals.bad-here, Refusals.bad-next, Refusals.bad-none}
use Rattle.export_batch.proofs.refuse.bad_word.Goals as goal

pub loop-i-init : goal.loop-i-init
loop-i-init c = bad_first _ _

pub returns-in-Err : goal.returns-in-Err
returns-in-Err c =
    let l = c.loop-i in
    let told = c.in-Err.ensures ∙ ap (λ q. first_fault (request_faults q l.i)) c.input_at.ensures in
    bad-here _ _ l.i _ c.loop-i-test.true told c.refusal_word.ensures ∙ sym (ap first_word l.invariant)

pub loop-i-preserved : goal.loop-i-preserved
loop-i-preserved c =
    let l = c.loop-i in
    let told = c.in_default.ensures ∙ ap (λ q. first_fault (request_faults q l.i)) c.input_at.ensures in
    l.invariant ∙ bad-next _ _ l.i c.loop-i-test.true told

pub returns : goal.returns
returns c = bad-none _ _ c.loop-i.i (omega arith) ∙ sym (ap first_word c.loop-i.invariant)
