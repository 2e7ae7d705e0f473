-- `catalogue_records::repeat_among_earlier` meets its contract. The loop's invariant: no record passed has the id. Assumes nothing.
use Rattle.rules.proofs.Kit.{◌≡◌}
use Rattle.rules.specs.{Validate.repeat_faults}
use Rattle.catalogue_records.specs.Ids.{earlier_ids}
use Rattle.catalogue_records.proofs.{Walks.before}
use Rattle.catalogue_records.proofs.ids.repeat_among_earlier.Given as goal

abbrev pub invariant-loop-earlier : goal.invariant-loop-earlier
invariant-loop-earlier l = repeat_faults (earlier_ids l.bank l.place) l.id ≡ repeat_faults (before l.bank l.place l.earlier) l.id
