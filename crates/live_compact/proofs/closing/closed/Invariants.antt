-- `live_compact::closed` meets its contract. The loop's invariant: the live ones of the first i slots are at the front. Assumes nothing.
use Rattle.rules.proofs.Kit.{◌≤◌, ◌≡◌}
use Rattle.live_compact.proofs.{Gaps.partly, Gaps.count}
use Rattle.live_compact.proofs.closing.closed.Given as goal

abbrev pub invariant-loop-i : goal.invariant-loop-i
invariant-loop-i l = record {
  fewer : l.live ≤ l.i;
  counted : l.live ≡ count l.initial.bank l.i;
  closed : l.bank ≡ partly l.initial.bank l.i;
}
