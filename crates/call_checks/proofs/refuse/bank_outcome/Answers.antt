-- `call_checks::bank_outcome` meets its contract. Assumes nothing.
use Rattle.rules.proofs.Kit.{lt-ltb, le-ltb, eq-eqb, ne_eqb}
use Rattle.rules.specs.Refused.{length_faults, first_fault, told_outcome}
use Rattle.call_checks.proofs.refuse.bank_outcome.Goals as goal

pub returns-then-length-ne0 : goal.returns-then-length-ne0
unfolding length_faults first_fault told_outcome
returns-then-length-ne0 c = rw (ne_eqb _ _ c.if-length-ne0.true)

pub returns-then-length-gt-MAX_CATALOG_MODELS : goal.returns-then-length-gt-MAX_CATALOG_MODELS
unfolding length_faults first_fault told_outcome
returns-then-length-gt-MAX_CATALOG_MODELS c = rw (eq-eqb _ _ c.if-length-ne0.false, lt-ltb _ _ c.if-length-gt-MAX_CATALOG_MODELS.true)

pub returns : goal.returns
unfolding length_faults first_fault told_outcome
returns c = rw (eq-eqb _ _ c.if-length-ne0.false, le-ltb _ _ c.if-length-gt-MAX_CATALOG_MODELS.false)
