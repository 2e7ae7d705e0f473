-- `live_edits::written` meets its contract. Assumes nothing.
use Rattle.rules.proofs.Kit.{arith}
use Rattle.live_edits.proofs.{SlotSet.slot_inside, SlotSet.slot-written}
use Rattle.live_edits.proofs.edits.written.Goals as goal

pub put_bytes-requires : goal.put_bytes-requires
put_bytes-requires c = omega (arith, (slot_inside _ _ _ c.requires.writable).0, c.requires.bytes_len)

pub raised-requires : goal.raised-requires
raised-requires c = (slot_inside _ _ _ c.requires.writable).2

pub returns-clause-exit : goal.returns-clause-exit
returns-clause-exit c = slot-written _ _ _ _ c.requires.writable c.requires.bytes_len (rw c.from-at.ensures at c.put_bytes.ensures)
