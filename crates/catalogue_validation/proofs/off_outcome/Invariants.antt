-- `catalogue_validation::off_outcome` meets its contract. The loop's invariant: every record passed is off. Assumes nothing.
use Rattle.rules.proofs.Kit.{◌≡◌}
use Rattle.rules.specs.{Records.listed_of, Validate.off_faults}
use Rattle.catalogue_records.proofs.Walks.{rest}
use Rattle.catalogue_validation.proofs.off_outcome.Given as goal

abbrev pub invariant-loop-place : goal.invariant-loop-place
invariant-loop-place l = off_faults (listed_of l.bank) ≡ off_faults (rest l.bank l.place)
