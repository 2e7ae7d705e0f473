-- `live_edits::remove` meets its contract. Assumes nothing.
use Rattle.rules.specs.Edits.{remove_of, remove_bank}
use Rattle.live_edits.proofs.{Chosen.of-id-writable, SlotSet.nothing_written, SlotSet.edit_written}
use Rattle.live_edits.proofs.edits.remove.Goals as goal

pub returns-in_err-slot : goal.returns-in_err-slot
unfolding remove_of remove_bank
returns-in_err-slot c =
    let w = nothing_written _ _ _ _ _ c.from_residual.ensures.1 c.in_err-slot.ensures in
    record { answer = w.0; exit = w.1 }

pub written-requires-clause-writable : goal.written-requires-clause-writable
written-requires-clause-writable c = of-id-writable _ _ _ c.in_ok-slot.ensures

pub returns : goal.returns
unfolding remove_of remove_bank
returns c =
    let w = edit_written _ _ _ _ _ c.written.ensures.answer c.written.ensures.exit c.in_ok-slot.ensures in
    record { answer = w.0; exit = w.1 }
