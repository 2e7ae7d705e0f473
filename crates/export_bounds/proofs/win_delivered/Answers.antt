-- `export_bounds::win_delivered` meets its contract. Assumes nothing.
use Rattle.rules.proofs.Kit.{ap, ◌∙◌}
use Rattle.rules.proofs.Faults.{passed}
use Rattle.export_checks.proofs.{Tests.call-policy, Tests.call-request, Tests.call-room, Handed.tests-refused, Handed.tests-passed}
use Rattle.export_bounds.specs.Bounds.{bounds_in}
use Rattle.export_bounds.proofs.win_delivered.Goals as goal

pub returns-in-Err : goal.returns-in-Err
returns-in-Err c = tests-refused _ _ _ _ _ c.in-Err.ensures c.refusal_word.ensures

pub policy_of-requires : goal.policy_of-requires
policy_of-requires c = call-policy _ _ _ (passed _ c.in_default.ensures)

pub input_of-requires : goal.input_of-requires
input_of-requires c = call-request _ _ _ (passed _ c.in_default.ensures)

pub bounds_handed-requires : goal.bounds_handed-requires
bounds_handed-requires c = call-room _ _ _ (passed _ c.in_default.ensures)

pub returns : goal.returns
returns c =
    tests-passed _ _ _ _ (passed _ c.in_default.ensures)
    (ap bounds_in (c.what_would_win.ensures ∙ rw (c.policy_of.ensures, c.input_of.ensures)))
    c.bounds_handed.ensures
