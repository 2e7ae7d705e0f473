-- `export_batch::refuse::bad_word` meets its contract. The loop's invariant: what refuses the whole row is what refuses it from here on.
-- Assumes nothing.
use Rattle.rules.proofs.Kit.{◌≡◌}
use Rattle.rules.specs.{Batch.requests_faults}
use Rattle.export_batch.specs.Batches.{requests_from}
use Rattle.export_batch.proofs.{Refusals.from_here}
use Rattle.export_batch.proofs.refuse.bad_word.Given as goal

abbrev pub invariant-loop-i : goal.invariant-loop-i
invariant-loop-i l = requests_faults 0 (requests_from l.requests 0 l.count) ≡ from_here l.requests l.count l.i
