-- `stored_layout::front_body` meets its contract. Assumes nothing.
use Rattle.rules.proofs.Kit.{add-sub_cancel_left}
use Rattle.rules.specs.Stored.{body_of}
use Rattle.stored_layout.proofs.front_body.Goals as goal

pub returns : goal.returns
unfolding body_of
returns c = rw (add-sub_cancel_left, c.from-end.ensures, c.u16_at.ensures)
