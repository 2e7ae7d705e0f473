-- `kernel_scan::scan_with` meets its contract. Assumes nothing.
use Rattle.kernel_scan.proofs.{Standing.room-before, Standing.room-here, Standing.room_after, Standing.parts-scan}
use Rattle.kernel_scan.proofs.scan_with.Goals as goal

pub scan_on-before-requires : goal.scan_on-before-requires
scan_on-before-requires c =
    (c.requires.0, room-before _ _ c.args.stand.now c.requires.1 c.args.pricing c.args.input c.start.ensures)

pub scan_on-there-requires : goal.scan_on-there-requires
scan_on-there-requires c =
    (c.requires.0, room-here _ _ c.args.stand.now c.requires.1 _ _ c.start.ensures c.scan_on-before.ensures)

pub scan_on-requires : goal.scan_on-requires
scan_on-requires c =
    (c.requires.0, room_after _ _ _ c.requires.1 _ _ c.start.ensures c.scan_on-before.ensures c.scan_on-there.ensures)

pub returns : goal.returns
returns c =
    parts-scan _ _ _ c.requires.1 _ _ c.start.ensures c.scan_on-before.ensures c.scan_on-there.ensures c.scan_on.ensures
