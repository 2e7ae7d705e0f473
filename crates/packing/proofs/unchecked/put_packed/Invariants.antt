-- `packing::unchecked::put_packed` meets its contract. The loop's invariant: the fields so far stand up to a position. Assumes nothing.
use Rattle.rules.proofs.Kit.{length, drop}
use Rattle.packing.proofs.{Packing.Words}
use Rattle.packing.proofs.unchecked.put_packed.Given as goal

abbrev pub invariant-loop-width : goal.invariant-loop-width
invariant-loop-width l = Words (length l.initial.out) l.at (drop l.width-index l.fields) l.fields l.out
