-- `export_lookups::find_delivered` meets its contract. Assumes nothing.
use Rattle.rules.proofs.Kit.{arith}
use Rattle.rules.proofs.Faults.{none_told}
use Rattle.export_checks.proofs.{Tests.lent_room, Handed.tests-refused, Handed.tests-passed}
use Rattle.export_lookups.proofs.find_delivered.Goals as goal

pub returns-in-Err : goal.returns-in-Err
returns-in-Err c =
    tests-refused _ _ _ _ c.in-Err.refusal c.in-Err.ensures c.refusal_word.ensures

pub found_handed-requires : goal.found_handed-requires
found_handed-requires c =
    let a = c.args in
    let room = lent_room a.bank.now _ _ (none_told _ c.in_default.is c.lent_outcome.ensures) in
    omega arith

pub returns : goal.returns
returns c =
    let none = none_told _ c.in_default.is c.lent_outcome.ensures in
    tests-passed _ _ _ _ none c.find.ensures c.found_handed.ensures
