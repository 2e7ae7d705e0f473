-- `text::put_words` meets its contract. The loop's invariant: the numbers so far are written. Assumes nothing.
use Rattle.rules.proofs.Kit.{◌≤◌, ◌+◌, ◌*◌, map, take}
use Rattle.rules.specs.Text.{decimal, spaced}
use Rattle.splice.proofs.Pieces.{Written}
use Rattle.text.proofs.put_words.Given as goal

abbrev pub invariant-loop-n : goal.invariant-loop-n
invariant-loop-n l = record {
  within : l.next ≤ l.at + 21 * l.n-index;
  done : Written l.initial.out l.at (spaced (map decimal (take l.n-index l.ns))) l.out l.next;
}
