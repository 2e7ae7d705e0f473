-- `export_calls::traced_handed` meets its contract. Assumes nothing.
use Rattle.rules.proofs.Kit.{refl, ap}
use Rattle.rules.specs.Numbers.{told_traced}
use Rattle.export_checks.proofs.Handed.{answer-refused, answer-delivered}
use Rattle.export_calls.proofs.traced_handed.Goals as goal

pub returns-in-Err : goal.returns-in-Err
returns-in-Err c = answer-refused _ _ _ _ refl (ap told_traced c.in-Err.is) c.refusal_word.ensures

pub returns-in-Ok : goal.returns-in-Ok
returns-in-Ok c =
    let told = ap told_traced c.in-Ok.is in
    answer-delivered _ _ _ _ refl told (rw c.decision_bytes.ensures at c.hand_bytes.ensures)
