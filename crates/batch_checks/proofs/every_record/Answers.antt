-- `batch_checks::every_record` meets its contract. Assumes nothing.
use Rattle.rules.proofs.Kit.{arith, refl}
use Rattle.rules.proofs.Faults.{exit_answer, passed_answer, bank_room}
use Rattle.batch_checks.proofs.every_record.Goals as goal

pub returns-in_err-bank_outcome : goal.returns-in_err-bank_outcome
returns-in_err-bank_outcome c = exit_answer _ _ _ _ _ c.from_residual.ensures.1 c.in_err-bank_outcome.ensures

pub overflow_cast-result : goal.overflow_cast-result
overflow_cast-result c = omega (arith, bank_room _ refl c.in_ok-bank_outcome.ensures)

pub returns : goal.returns
returns c = passed_answer _ _ _ c.in_ok-bank_outcome.ensures refl
