-- `export_lookups::next_delivered` meets its contract. Assumes nothing.
use Rattle.rules.proofs.Kit.{refl}
use Rattle.rules.proofs.Faults.{room_enough}
use Rattle.export_checks.proofs.{Tests.room_first, Handed.first_handed, Handed.answer-delivered}
use Rattle.export_lookups.proofs.next_delivered.Goals as goal

pub returns-then-out-lt-WORD_BYTES : goal.returns-then-out-lt-WORD_BYTES
returns-then-out-lt-WORD_BYTES c = first_handed _ _ _ _ (room_first _ _ c.if-out-lt-WORD_BYTES.true) c.refusal_word.ensures

pub returns : goal.returns
returns c =
    answer-delivered _ _ _ _ (room_enough _ _ c.if-out-lt-WORD_BYTES.false) refl (rw c.next_place.ensures at c.hand_u64.ensures)
