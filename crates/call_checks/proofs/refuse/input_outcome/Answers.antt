-- `call_checks::input_outcome` meets its contract. Assumes nothing.
use Rattle.rules.proofs.Kit.{lt-ltb, le-ltb}
use Rattle.rules.specs.{Refused.first_fault, Refused.told_outcome, Decide.request_faults}
use Rattle.call_checks.proofs.refuse.input_outcome.Goals as goal

pub returns-then-input-gt-MAX_BPS : goal.returns-then-input-gt-MAX_BPS
unfolding request_faults first_fault told_outcome
returns-then-input-gt-MAX_BPS c = rw (lt-ltb _ _ c.if-input-gt-MAX_BPS.true)

pub returns-then-input-gt-MAX_BPS-2 : goal.returns-then-input-gt-MAX_BPS-2
unfolding request_faults first_fault told_outcome
returns-then-input-gt-MAX_BPS-2 c = rw (le-ltb _ _ c.if-input-gt-MAX_BPS.false, lt-ltb _ _ c.if-input-gt-MAX_BPS-2.true)

pub returns-then-input-gt-MAX_BPS-3 : goal.returns-then-input-gt-MAX_BPS-3
unfolding request_faults first_fault told_outcome
returns-then-input-gt-MAX_BPS-3 c =
    rw (
      le-ltb _ _ c.if-input-gt-MAX_BPS.false,
      le-ltb _ _ c.if-input-gt-MAX_BPS-2.false,
      lt-ltb _ _ c.if-input-gt-MAX_BPS-3.true,
    )

pub returns : goal.returns
unfolding request_faults first_fault told_outcome
returns c =
    rw (
      le-ltb _ _ c.if-input-gt-MAX_BPS.false,
      le-ltb _ _ c.if-input-gt-MAX_BPS-2.false,
      le-ltb _ _ c.if-input-gt-MAX_BPS-3.false,
    )
