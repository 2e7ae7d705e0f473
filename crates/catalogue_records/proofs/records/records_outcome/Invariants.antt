-- `catalogue_records::records_outcome` meets its contract. The loop's invariant: no record passed is refused. Assumes nothing.
use Rattle.rules.proofs.Kit.{◌≡◌, []}
use Rattle.rules.specs.{Records.listed_of, Validate.records_faults}
use Rattle.catalogue_records.proofs.{Walks.records_left}
use Rattle.catalogue_records.proofs.records.records_outcome.Given as goal

abbrev pub invariant-loop-place : goal.invariant-loop-place
invariant-loop-place l = records_faults [] (listed_of l.bank) ≡ records_left l.bank l.place
