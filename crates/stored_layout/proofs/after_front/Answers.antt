-- `stored_layout::after_front` meets its contract. Assumes nothing.
use Rattle.rules.specs.Stored.{after_of}
use Rattle.stored_layout.proofs.{Forms.to_end}
use Rattle.stored_layout.proofs.after_front.Goals as goal

pub returns : goal.returns
unfolding after_of
returns c = rw (to_end, c.from-end.ensures, c.u16_at.ensures)
