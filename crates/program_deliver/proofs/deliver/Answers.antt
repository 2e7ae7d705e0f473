-- `program_deliver::deliver` meets its contract. Assumes nothing.
use Rattle.rules.proofs.Kit.{refl, ◌∙◌}
use Rattle.rules.specs.Printed.{print_of, print_buffer}
use Rattle.splice.proofs.Pieces.{patched_start}
use Rattle.rules.proofs.Faults.{room_enough, room_short}
use Rattle.stored_layout.proofs.Buffers.{stays}
use Rattle.program_deliver.proofs.deliver.Goals as goal

pub returns-then-out-text : goal.returns-then-out-text
unfolding print_of print_buffer
returns-then-out-text c = stays _ _ _ _ refl (room_short _ _ c.if-out-text.true)

pub returns : goal.returns
unfolding print_of print_buffer
returns c =
    let none = room_enough _ _ c.if-out-text.false in
    rw none (refl, c.put_bytes.ensures ∙ patched_start _ _)
