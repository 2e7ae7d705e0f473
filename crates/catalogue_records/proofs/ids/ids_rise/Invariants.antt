-- `catalogue_records::ids_rise` meets its contract. The loop's invariant: the answer is that for the ids left, from one above the last. Assumes nothing.
use Rattle.rules.proofs.Kit.{◌≡◌}
use Rattle.catalogue_records.specs.Ids.{rises_from}
use Rattle.catalogue_records.proofs.{Walks.ids, Rising.rises_left}
use Rattle.catalogue_records.proofs.ids.ids_rise.Given as goal

abbrev pub invariant-loop-place : goal.invariant-loop-place
invariant-loop-place l = rises_from 0 (ids l.bank) ≡ rises_left l.bank l.least l.place
