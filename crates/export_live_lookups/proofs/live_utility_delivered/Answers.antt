-- `export_live_lookups::live_utility_delivered` meets its contract. Assumes nothing.
use Rattle.rules.proofs.Kit.{◌∙◌, arith}
use Rattle.live_slots.proofs.Told.{number_refused}
use Rattle.export_checks.proofs.Handed.{tests-refused, tests-passed}
use Rattle.export_live_checks.proofs.Openings.{passed}
use Rattle.export_live_lookups.proofs.live_utility_delivered.Goals as goal

pub returns-in-Err : goal.returns-in-Err
returns-in-Err c = tests-refused _ _ _ _ c.in-Err.refusal (number_refused _ _ _ c.in-Err.ensures) c.refusal_word.ensures

pub policy_of-requires : goal.policy_of-requires
policy_of-requires c = let is = passed _ _ _ _ c.in_default.ensures in is.policy

pub input_of-requires : goal.input_of-requires
input_of-requires c = let is = passed _ _ _ _ c.in_default.ensures in is.request

pub utility_handed-requires : goal.utility_handed-requires
utility_handed-requires c = let is = passed _ _ _ _ c.in_default.ensures in omega (arith, is.space)

pub returns : goal.returns
returns c =
    let is = passed _ _ _ _ c.in_default.ensures in
    tests-passed _ _ _ _ is.clear (c.utility_for_model.ensures ∙ rw (c.policy_of.ensures, c.input_of.ensures))
    c.utility_handed.ensures
