-- `export_form_parts::request_delivered` meets its contract. Assumes nothing.
use Rattle.rules.proofs.Kit.{refl, append-nil}
use Rattle.rules.specs.{Limits.request_bytes, Stored.read_request_of}
use Rattle.rules.proofs.Faults.{room_enough}
use Rattle.export_checks.proofs.Handed.{first_handed, told_none, told_refused, told-delivered}
use Rattle.export_form_parts.proofs.{Answering.request_short}
use Rattle.export_form_parts.proofs.request_delivered.Goals as goal

pub returns-in-Err : goal.returns-in-Err
unfolding read_request_of
returns-in-Err c = told_refused (record { is = c.in-Err.ensures }) _ _ _ _ refl c.refusal_word.ensures

pub returns-in-Ok : goal.returns-in-Ok
unfolding read_request_of
returns-in-Ok c =
    let none = told_none (record { is = c.in-Ok.ensures }) refl in
    first_handed _ _ _ _ (request_short _ _ none c.if-out-lt-REQUEST_BYTES.true) c.refusal_word-in-Ok.ensures

pub returns-in-Ok-2 : goal.returns-in-Ok-2
unfolding read_request_of
returns-in-Ok-2 c =
    rw (room_enough request_bytes _ c.if-out-lt-REQUEST_BYTES.false, append-nil)
    (told-delivered (record { is = c.in-Ok-2.ensures }) _ _ refl (rw (c.input_bytes.ensures, c.in-Ok-2.input-is) at c.hand_bytes.ensures))
