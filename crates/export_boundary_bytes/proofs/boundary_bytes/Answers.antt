-- `export_boundary_bytes::boundary_bytes` meets its contract. Assumes nothing.
use Rattle.rules.specs.declared.boundary.Boundaries.{Boundaries}
use Rattle.rules.proofs.Kit.{List, ℕ, ◌++◌, rules, arith}
use Rattle.rules.specs.Numbers.{told_boundaries}
use Rattle.export_decision_bytes.specs.Layout.{uncounted_bytes}
use Rattle.export_boundary_bytes.specs.Layout.{head_bytes, boundary_bytes}
use Rattle.export_boundary_bytes.proofs.{Rooms.written_head, Rooms.rooms_none, Rooms.room_more, Rooms.rooms_filled}
use Rattle.export_boundary_bytes.proofs.boundary_bytes.Goals as goal

abbrev start : Boundaries → List ℕ
start b = uncounted_bytes (told_boundaries b).decision ++ head_bytes (told_boundaries b)

pub loop-i-init : goal.loop-i-init
loop-i-init c = rooms_none c.args.answer.levers.levers (written_head (told_boundaries c.args.answer) c.leverless_bytes-a.ensures)

pub loop-i-preserved : goal.loop-i-preserved
loop-i-preserved c =
    let b = c.args.answer in
    let l = c.loop-i in
    room_more (start b) b.levers.levers l.i _ c.lever_bytes.ensures (search rules) l.invariant (omega arith) c.put_bytes.ensures _ (omega arith)

pub returns : goal.returns
unfolding boundary_bytes
returns c = let l = c.loop-i in rooms_filled (start c.args.answer) c.args.answer.levers.levers l.i l.invariant (omega arith) (omega arith)
