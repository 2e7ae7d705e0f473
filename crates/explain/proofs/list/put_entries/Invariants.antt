-- The loop's invariant: the entries of those that are read among the first i records stand at the start of the list. Assumes nothing.
use Rattle.rules.proofs.Kit.{◌≤◌, ◌≡◌, length}
use Rattle.explain.proofs.{Entries.Told}
use Rattle.explain.proofs.list.put_entries.Given as goal

abbrev pub invariant-loop-i : goal.invariant-loop-i
invariant-loop-i l = record {
  fewer : l.entries ≤ l.i;
  kept : length l.list ≡ length l.initial.list;
  told : Told l.pricing l.input l.many l.bank l.initial.list l.i l.list l.entries;
}
