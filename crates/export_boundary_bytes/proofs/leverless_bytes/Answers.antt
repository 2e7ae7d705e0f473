-- `export_boundary_bytes::leverless_bytes` meets its contract. Assumes nothing.
use Rattle.rules.proofs.Kit.{lit≤, replicate}
use Rattle.rules.specs.Numbers.{told_boundaries}
use Rattle.export_boundary_bytes.specs.Layout.{boundary_size}
use Rattle.export_boundary_bytes.proofs.{Rooms.laid_head}
use Rattle.export_boundary_bytes.proofs.leverless_bytes.Goals as goal

pub returns : goal.returns
returns c =
    laid_head (replicate boundary_size 0) (told_boundaries c.args.answer) c.uncounted_bytes.ensures c.head_bytes.ensures c.put_bytes.ensures c.put_bytes-2.ensures (lit≤ tt)
