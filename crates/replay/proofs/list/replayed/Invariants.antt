-- `replay::list::replayed` meets its contract. The loop's invariant: no more answers than bytes passed, and no count above the answers; the
-- measure is what is left of the list. Assumes nothing.
use Rattle.std.proofs.Common.{◌≤◌, ◌+◌, length}
use Rattle.replay.proofs.list.replayed.Given as goal

abbrev pub invariant-loop-entry : goal.invariant-loop-entry
invariant-loop-entry l = record {
  answers : l.told.answers + length l.rest ≤ length l.list;
  different : l.told.different ≤ l.told.answers;
  rust : l.told.rust ≤ l.told.answers;
  second : l.told.second ≤ l.told.answers;
  both : l.told.both ≤ l.told.answers;
}

abbrev pub decreases-loop-entry : goal.decreases-loop-entry
decreases-loop-entry l = length l.rest
