-- `export_form_parts::stored_delivered` meets its contract. Assumes nothing.
use Rattle.rules.proofs.Kit.{ap, refl, ◌∙◌, append-nil, length}
use Rattle.rules.specs.{Stored.read_stored_of, Stored.read_stored_buffer}
use Rattle.rules.proofs.Faults.{room_enough}
use Rattle.packing.proofs.Trips.{length_policy}
use Rattle.export_checks.proofs.Handed.{both, told_refused, told-delivered}
use Rattle.export_form_parts.specs.Parts.{stored_size, stored_bytes}
use Rattle.export_form_parts.proofs.{Answering.roomless_so, Answering.policy_and_length}
use Rattle.export_form_parts.proofs.stored_delivered.Goals as goal

pub returns-then-out-lt-STORED_BYTES : goal.returns-then-out-lt-STORED_BYTES
returns-then-out-lt-STORED_BYTES c = roomless_so _ _ _ c.if-out-lt-STORED_BYTES.true c.roomless.ensures

pub returns-in-Err : goal.returns-in-Err
unfolding read_stored_of read_stored_buffer
returns-in-Err c =
    let room = room_enough stored_size _ c.if-out-lt-STORED_BYTES.false in
    both (told_refused (record { is = c.in-Err.ensures.0 }) _ _ _ _ refl c.refusal_word.ensures) (c.in-Err.ensures.1 ∙ rw (room, append-nil))

pub returns-in-Ok : goal.returns-in-Ok
unfolding read_stored_of read_stored_buffer
returns-in-Ok c =
    let enough = c.if-out-lt-STORED_BYTES.false in
    let long = ap length c.policy_bytes.ensures ∙ length_policy c.in-Ok.policy in
    let put = policy_and_length _ _ _ long enough c.put_bytes.ensures c.put64.ensures in
    rw (room_enough stored_size _ enough, append-nil)
    (both (told-delivered (record { is = c.in-Ok.ensures.0 }) stored_bytes _ refl (rw c.policy_bytes.ensures at put)) c.in-Ok.ensures.1)
