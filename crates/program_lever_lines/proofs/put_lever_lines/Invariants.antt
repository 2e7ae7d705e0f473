-- `program_lever_lines::put_lever_lines` meets its contract. The loop's invariant: the lines of the levers so far are written. Assumes nothing.
use Rattle.rules.proofs.Kit.{◌≤◌, ◌+◌, ◌*◌, map, length, take}
use Rattle.rules.specs.{Numbers.told_entry, Printed.lever_lines}
use Rattle.splice.proofs.Pieces.{Written}
use Rattle.program_lever_lines.proofs.put_lever_lines.Given as goal

abbrev pub invariant-loop-lever : goal.invariant-loop-lever
invariant-loop-lever l = record {
  few : length l.lever-items ≤ 4;
  upper_bound : l.next ≤ l.at + 90 * l.lever-index;
  lines : Written l.initial.out l.at (lever_lines (map told_entry (take l.lever-index l.lever-items))) l.out l.next;
}
