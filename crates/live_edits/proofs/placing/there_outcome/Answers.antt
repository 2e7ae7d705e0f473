-- `live_edits::there_outcome` meets its contract. Assumes nothing.
use Rattle.rules.specs.{Refused.first_fault, Refused.told_outcome, Slots.slot_with}
use Rattle.live_edits.proofs.placing.there_outcome.Goals as goal

pub returns-in-Some : goal.returns-in-Some
unfolding slot_with first_fault told_outcome
returns-in-Some c = rw (← c.in-Some.ensures)

pub returns-in-None : goal.returns-in-None
unfolding slot_with first_fault told_outcome
returns-in-None c = rw (← c.in-None.ensures)
