-- `call_checks::first_listed` meets its contract. The loop's invariant: the records passed do not have the id. Assumes nothing.
use Rattle.rules.proofs.Kit.{◌≡◌}
use Rattle.call_checks.proofs.{Finding.found_from}
use Rattle.call_checks.proofs.listing.first_listed.Given as goal

abbrev pub invariant-loop-place : goal.invariant-loop-place
invariant-loop-place l = found_from l.bank l.id 0 ≡ found_from l.bank l.id l.place
