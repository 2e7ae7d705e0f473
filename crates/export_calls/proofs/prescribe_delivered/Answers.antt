-- `export_calls::prescribe_delivered` meets its contract. Assumes nothing.
use Rattle.rules.proofs.Kit.{ap, arith}
use Rattle.rules.proofs.Faults.{passed}
use Rattle.rules.specs.Refused.{answered}
use Rattle.export_checks.proofs.{Tests.call-lent, Tests.call-room, Handed.tests-refused, Handed.tests-passed}
use Rattle.export_calls.proofs.prescribe_delivered.Goals as goal

pub returns-in-Err : goal.returns-in-Err
returns-in-Err c =
    tests-refused _ _ _ _ _ c.in-Err.ensures c.refusal_word.ensures

pub traced_lent-requires : goal.traced_lent-requires
traced_lent-requires c =
    call-lent _ _ _ (passed _ c.in_default.ensures)

pub traced_handed-requires : goal.traced_handed-requires
traced_handed-requires c =
    let is = call-room _ _ _ (passed _ c.in_default.ensures) in
    omega arith

pub returns : goal.returns
returns c =
    let none = passed _ c.in_default.ensures in
    tests-passed _ _ _ _ none (ap answered c.traced_lent.ensures) c.traced_handed.ensures
