-- `bank::reading` meets its contract. Assumes nothing.
use Rattle.rules.proofs.Kit.{◌/◌, length, arith, lt-ltb, le-ltb, eq-eqb, ne_eqb}
use Rattle.rules.specs.{Refused.told_outcome, Refused.first_fault, Refused.length_faults, Listing.reading_faults, Listing.reading_of}
use Rattle.bank.proofs.reading.Goals as goal

pub returns-then-size-ne0 : goal.returns-then-size-ne0
unfolding told_outcome first_fault length_faults reading_faults reading_of
returns-then-size-ne0 c = rw (ne_eqb _ _ c.if-size-ne0.true)

pub returns-then-records-gt-MAX_CATALOG_MODELS : goal.returns-then-records-gt-MAX_CATALOG_MODELS
unfolding told_outcome first_fault length_faults reading_faults reading_of
returns-then-records-gt-MAX_CATALOG_MODELS c = rw (eq-eqb _ _ c.if-size-ne0.false, lt-ltb _ _ c.if-records-gt-MAX_CATALOG_MODELS.true)

pub returns-then-records-place : goal.returns-then-records-place
unfolding told_outcome first_fault length_faults reading_faults reading_of
returns-then-records-place c = rw (eq-eqb _ _ c.if-size-ne0.false, le-ltb _ _ c.if-records-gt-MAX_CATALOG_MODELS.false, le-ltb _ _ c.if-records-place.true)

pub returns : goal.returns
unfolding told_outcome first_fault length_faults reading_faults reading_of
returns c = rw (eq-eqb _ _ c.if-size-ne0.false, le-ltb _ _ c.if-records-gt-MAX_CATALOG_MODELS.false, lt-ltb c.args.place (length c.args.bank.now / 47) (omega (arith, c.if-records-place.false)))
