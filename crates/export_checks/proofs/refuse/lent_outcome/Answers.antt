-- `export_checks::lent_outcome` meets its contract. Assumes nothing.
use Rattle.rules.proofs.Kit.{lt-ltb, le-ltb}
use Rattle.rules.proofs.Faults.{exit_outcome, passed}
use Rattle.rules.specs.Refused.{room_faults, first_fault, told_outcome}
use Rattle.export_checks.proofs.refuse.lent_outcome.Goals as goal

pub returns-in_err-bank_outcome : goal.returns-in_err-bank_outcome
returns-in_err-bank_outcome c = exit_outcome _ _ _ _ c.from_residual.ensures.1 c.in_err-bank_outcome.ensures

pub returns-then-room-needed : goal.returns-then-room-needed
unfolding room_faults first_fault told_outcome
returns-then-room-needed c = rw (passed _ c.in_ok-bank_outcome.ensures, lt-ltb _ _ c.if-room-needed.true)

pub returns : goal.returns
unfolding room_faults first_fault told_outcome
returns c = rw (passed _ c.in_ok-bank_outcome.ensures, le-ltb _ _ c.if-room-needed.false)
