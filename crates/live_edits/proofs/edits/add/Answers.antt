-- `live_edits::add` meets its contract. Assumes nothing.
use Rattle.rules.proofs.Kit.{refl, ◌∙◌}
use Rattle.rules.specs.Edits.{add_of, add_bank}
use Rattle.live_edits.proofs.{Chosen.add-writable, SlotSet.own-add, SlotSet.other-add, SlotSet.nothing_written, SlotSet.edit_written}
use Rattle.live_edits.proofs.edits.add.Goals as goal

pub returns-then-bytes-ne-RECORD_BYTES : goal.returns-then-bytes-ne-RECORD_BYTES
unfolding add_of add_bank
returns-then-bytes-ne-RECORD_BYTES c = rw (other-add _ _ _ c.if-bytes-ne-RECORD_BYTES.true) record { answer = refl; exit = refl }

pub returns-in_err-slot : goal.returns-in_err-slot
unfolding add_of add_bank
returns-in_err-slot c =
    let slot = c.in_err-slot.ensures ∙ own-add _ _ _ c.if-bytes-ne-RECORD_BYTES.false _ c.u32_at.ensures in
    let w = nothing_written _ _ _ _ _ c.from_residual.ensures.1 slot in
    record { answer = w.0; exit = w.1 }

pub written-requires-clause-writable : goal.written-requires-clause-writable
written-requires-clause-writable c = add-writable _ _ _ c.in_ok-slot.ensures

pub returns : goal.returns
unfolding add_of add_bank
returns c =
    let slot = c.in_ok-slot.ensures ∙ own-add _ _ _ c.if-bytes-ne-RECORD_BYTES.false _ c.u32_at.ensures in
    let w = edit_written _ _ _ _ _ c.written.ensures.answer c.written.ensures.exit slot in
    record { answer = w.0; exit = w.1 }
