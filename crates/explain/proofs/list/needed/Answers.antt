-- `explain::needed` meets its contract. Assumes nothing.
use Rattle.rules.proofs.Kit.{sym}
use Rattle.explain.proofs.{Stopped.stopped-bytes, Stopped.open-bytes}
use Rattle.explain.proofs.list.needed.Goals as goal

pub returns-then-is_some : goal.returns-then-is_some
returns-then-is_some c = sym (stopped-bytes _ _ _ c.stopped_by.ensures _ c.if-is_some.ensures)

pub returns : goal.returns
returns c = rw c.from.ensures (sym (open-bytes _ _ _ c.stopped_by.ensures _ c.if-is_some.ensures))
