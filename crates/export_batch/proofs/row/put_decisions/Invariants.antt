-- `export_batch::row::put_decisions` meets its contract. The loop's invariant: the decisions on the first i requests stand at the start of the
-- buffer. Assumes nothing.
use Rattle.live_slots.specs.Among.{among_of}
use Rattle.export_batch.proofs.{Rows.Told}
use Rattle.export_batch.proofs.row.put_decisions.Given as goal

abbrev pub invariant-loop-i : goal.invariant-loop-i
invariant-loop-i l = Told l.policy (among_of l.many l.bank) l.requests l.initial.out l.i l.out
