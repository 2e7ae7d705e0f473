-- `unpacking_policy::rounding_of` meets its contract. Assumes nothing.
use Rattle.rules.proofs.Kit.{sym}
use Rattle.rules.proofs.Choices.{equal-yes, equal-no}
use Rattle.unpacking_policy.proofs.rounding_of.Goals as goal

pub returns-then-rounding_byte-eq-ONCE : goal.returns-then-rounding_byte-eq-ONCE
returns-then-rounding_byte-eq-ONCE c = rw (← c.rounding_byte.ensures) (sym (equal-yes _ _ _ _ c.if-rounding_byte-eq-ONCE.true))

pub returns : goal.returns
returns c = rw (← c.rounding_byte.ensures) (sym (equal-no _ _ _ _ c.if-rounding_byte-eq-ONCE.false))
