-- `stored::catalog::writing` meets its contract. Assumes nothing.
use Rattle.rules.proofs.Kit.{refl, arith}
use Rattle.stored.specs.Writing.{writing_faults}
use Rattle.stored.proofs.{Writing.rounding_short, Writing.allowance_short, Writing.writing_many, Writing.writing_short, Writing.writing_passed}
use Rattle.rules.proofs.Faults.{exit_outcome, append_refused, bank_room, passed}
use Rattle.stored.proofs.catalog.writing.Goals as goal

pub returns-in_err-bank_outcome : goal.returns-in_err-bank_outcome
unfolding writing_faults
returns-in_err-bank_outcome c = exit_outcome _ _ _ _ c.from_residual.ensures.1 (append_refused _ _ refl c.in_err-bank_outcome.ensures)

pub overflow_add-fields-2 : goal.overflow_add-fields-2
overflow_add-fields-2 c = omega (arith, bank_room _ refl c.in_ok-bank_outcome.ensures)

pub overflow_add-fields-3 : goal.overflow_add-fields-3
overflow_add-fields-3 c = omega (arith, bank_room _ refl c.in_ok-bank_outcome.ensures)

pub overflow_add-needed : goal.overflow_add-needed
overflow_add-needed c = omega (arith, bank_room _ refl c.in_ok-bank_outcome.ensures, c.rounding_size.ensures, rounding_short c.args.rounding)

pub overflow_add-needed-2 : goal.overflow_add-needed-2
overflow_add-needed-2 c =
    let s = c.args in
    omega (arith, bank_room _ refl c.in_ok-bank_outcome.ensures, c.rounding_size.ensures, rounding_short s.rounding, c.allowance_size.ensures, allowance_short s.allowance)

pub returns-then-length-gt-MAX_STORED_MODELS : goal.returns-then-length-gt-MAX_STORED_MODELS
returns-then-length-gt-MAX_STORED_MODELS c = writing_many _ _ _ _ (passed _ c.in_ok-bank_outcome.ensures) c.if-length-gt-MAX_STORED_MODELS.true

pub returns-then-room-needed : goal.returns-then-room-needed
returns-then-room-needed c =
    writing_short _ _ _ _ (passed _ c.in_ok-bank_outcome.ensures) c.if-length-gt-MAX_STORED_MODELS.false
    (rw (← c.rounding_size.ensures, ← c.allowance_size.ensures) c.if-room-needed.true)

pub returns : goal.returns
returns c =
    writing_passed _ _ _ _ (passed _ c.in_ok-bank_outcome.ensures) c.if-length-gt-MAX_STORED_MODELS.false
    (rw (← c.rounding_size.ensures, ← c.allowance_size.ensures) c.if-room-needed.false)
