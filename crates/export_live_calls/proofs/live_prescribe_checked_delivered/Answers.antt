-- `export_live_calls::live_prescribe_checked_delivered` meets its contract. Assumes nothing.
use Rattle.rules.proofs.Kit.{ap, ◌∙◌, arith}
use Rattle.rules.specs.Refused.{answered}
use Rattle.live_slots.proofs.Told.{number_refused, number_passed}
use Rattle.export_checks.proofs.Handed.{tests-refused, tests-passed}
use Rattle.export_live_checks.proofs.Openings.{passed-more}
use Rattle.export_live_calls.proofs.live_prescribe_checked_delivered.Goals as goal

pub returns-in-Err : goal.returns-in-Err
returns-in-Err c = tests-refused _ _ _ _ _ (number_refused _ _ _ c.in-Err.ensures) c.refusal_word.ensures

pub traced_live-requires : goal.traced_live-requires
traced_live-requires c = let is = passed-more _ _ _ _ _ c.in-Ok.ensures in (is.policy, is.request, is.seen)

pub traced_handed-requires : goal.traced_handed-requires
traced_handed-requires c = let is = passed-more _ _ _ _ _ c.in-Ok.ensures in omega (arith, is.space)

pub returns-in-Ok : goal.returns-in-Ok
returns-in-Ok c =
    let is = passed-more _ _ _ _ _ c.in-Ok.ensures in
    let tests = number_passed _ _ _ c.in-Ok.ensures in
    tests-passed _ _ _ _ tests.0 (ap answered (c.traced_live.ensures ∙ rw is.read)) c.traced_handed.ensures
