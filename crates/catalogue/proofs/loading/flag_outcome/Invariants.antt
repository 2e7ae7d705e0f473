-- `catalogue::flag_outcome` meets its contract. The loop's invariant: no record passed has a flag above 1. Assumes nothing.
use Rattle.rules.proofs.Kit.{◌≡◌}
use Rattle.rules.specs.{Records.listed_of, Trust.flag_faults}
use Rattle.catalogue_records.proofs.Walks.{rest}
use Rattle.catalogue.proofs.loading.flag_outcome.Given as goal

abbrev pub invariant-loop-place : goal.invariant-loop-place
invariant-loop-place l = flag_faults (listed_of l.bank) ≡ flag_faults (rest l.bank l.place)
