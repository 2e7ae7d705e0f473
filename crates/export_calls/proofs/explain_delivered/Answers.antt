-- `export_calls::explain_delivered` meets its contract. Assumes nothing.
use Rattle.rules.proofs.Kit.{refl, sym, ◌∙◌, arith}
use Rattle.rules.proofs.Faults.{passed, unless_refused}
use Rattle.export_checks.proofs.{Tests.call-policy, Tests.call-request, Tests.call-room, Handed.both, Handed.tests-refused}
use Rattle.export_checks.proofs.{Handed.tests-passed}
use Rattle.export_calls.proofs.explain_delivered.Goals as goal

pub returns-in-Err : goal.returns-in-Err
returns-in-Err c =
    both
    (tests-refused _ _ _ _ _ c.in-Err.ensures c.refusal_word.ensures)
    (sym (unless_refused _ _ _ refl c.in-Err.ensures))

pub policy_of-requires : goal.policy_of-requires
policy_of-requires c =
    call-policy _ _ _ (passed _ c.in_default.ensures)

pub input_of-requires : goal.input_of-requires
input_of-requires c =
    call-request _ _ _ (passed _ c.in_default.ensures)

pub decision_handed-requires : goal.decision_handed-requires
decision_handed-requires c =
    let is = call-room _ _ _ (passed _ c.in_default.ensures) in
    omega arith

pub returns : goal.returns
returns c =
    let none = passed _ c.in_default.ensures in
    both
    (tests-passed _ _ _ _ none (c.explain-prescribed.ensures.answer ∙ rw (c.policy_of.ensures, c.input_of.ensures))
    c.decision_handed.ensures)
    (c.explain-prescribed.ensures.bytes ∙ rw (c.policy_of.ensures, c.input_of.ensures, none))
