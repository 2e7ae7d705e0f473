-- `export_lookups::utility_delivered` meets its contract. Assumes nothing.
use Rattle.rules.proofs.Kit.{◌∙◌, arith}
use Rattle.rules.proofs.Faults.{none_told}
use Rattle.export_checks.proofs.{Tests.call-policy, Tests.call-request, Tests.call-room, Handed.tests-refused, Handed.tests-passed}
use Rattle.export_lookups.proofs.utility_delivered.Goals as goal

pub returns-in-Err : goal.returns-in-Err
returns-in-Err c = tests-refused _ _ _ _ c.in-Err.refusal c.in-Err.ensures c.refusal_word.ensures

pub policy_of-requires : goal.policy_of-requires
policy_of-requires c = call-policy _ _ _ (none_told _ c.in_default.is c.call_outcome.ensures)

pub input_of-requires : goal.input_of-requires
input_of-requires c = call-request _ _ _ (none_told _ c.in_default.is c.call_outcome.ensures)

pub utility_handed-requires : goal.utility_handed-requires
utility_handed-requires c =
    let is = call-room _ _ _ (none_told _ c.in_default.is c.call_outcome.ensures) in
    omega arith

pub returns : goal.returns
returns c =
    let none = none_told _ c.in_default.is c.call_outcome.ensures in
    tests-passed _ _ _ _ none (c.utility_for_model.ensures ∙ rw (c.policy_of.ensures, c.input_of.ensures))
    c.utility_handed.ensures
