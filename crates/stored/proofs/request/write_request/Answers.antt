-- `stored::request::write_request` meets its contract. Assumes nothing.
use Rattle.rules.proofs.Kit.{refl, ap, arith}
use Rattle.rules.specs.Stored.{field_bytes, request_form, write_request_of, write_request_buffer}
use Rattle.splice.proofs.Pieces.{written_as, written}
use Rattle.rules.proofs.Faults.{room_enough, room_short}
use Rattle.stored_layout.proofs.Buffers.{fills, stays}
use Rattle.stored.proofs.{Writing.length_request}
use Rattle.stored.proofs.request.write_request.Goals as goal

pub returns-then-out : goal.returns-then-out
unfolding write_request_of write_request_buffer
returns-then-out c = stays _ _ _ _ refl (room_short _ _ (omega (arith, length_request c.args.input)))

pub returns : goal.returns
unfolding write_request_of write_request_buffer request_form
returns c =
    fills _ (room_enough _ _ (omega (arith, length_request c.args.input)))
    (written_as (written _ _ _ c.put_field.ensures) (ap (field_bytes 3) c.input_bytes.ensures))
