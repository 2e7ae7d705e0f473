-- `catalogue::reserved_outcome` meets its contract. The loop's invariant: no record passed has id 0. Assumes nothing.
use Rattle.rules.proofs.Kit.{◌≡◌}
use Rattle.rules.specs.{Records.listed_of, Trust.reserved_faults}
use Rattle.catalogue_records.proofs.Walks.{rest}
use Rattle.catalogue.proofs.loading.reserved_outcome.Given as goal

abbrev pub invariant-loop-place : goal.invariant-loop-place
invariant-loop-place l = reserved_faults (listed_of l.bank) ≡ reserved_faults (rest l.bank l.place)
