-- `export_boundary_bytes::boundary_bytes` meets its contract. The loop's invariant: the decision, what stands after it, and the rooms of the first i levers
-- are written. Assumes nothing.
use Rattle.rules.proofs.Kit.{◌+◌, ◌*◌, ◌++◌, replicate}
use Rattle.rules.specs.Numbers.{told_boundaries}
use Rattle.splice.proofs.Pieces.{Written}
use Rattle.export_decision_bytes.specs.Layout.{uncounted_bytes}
use Rattle.export_boundary_bytes.specs.Layout.{boundary_size, head_bytes}
use Rattle.export_boundary_bytes.proofs.Rooms.{rooms}
use Rattle.export_boundary_bytes.proofs.boundary_bytes.Given as goal

abbrev pub invariant-loop-i : goal.invariant-loop-i
invariant-loop-i l =
    let b = told_boundaries l.fn.answer in
    Written (replicate boundary_size 0) 0 ((uncounted_bytes b.decision ++ head_bytes b) ++ rooms l.requirement-items l.i) l.a (79 + 26 * l.i)
