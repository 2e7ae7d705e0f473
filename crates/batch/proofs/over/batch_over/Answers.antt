-- `batch::over::batch_over` meets its contract. Assumes nothing.
use Rattle.rules.proofs.Kit.{length}
use Rattle.rules.specs.{Numbers.told_decision, Refused.room_faults}
use Rattle.rules.proofs.Faults.{passed, room_passed}
use Rattle.batch.proofs.{Batches.refused_both, Batches.answered_both}
use Rattle.batch.proofs.over.batch_over.Goals as goal

pub returns-in_err-room_outcome : goal.returns-in_err-room_outcome
returns-in_err-room_outcome c = refused_both _ _ (room_faults (length c.args.inputs.now)) told_decision _ _ c.from_residual.ensures.1 c.in_err-room_outcome.ensures

pub fill-requires-clause-room : goal.fill-requires-clause-room
fill-requires-clause-room c = room_passed _ _ (passed _ c.in_ok-room_outcome.ensures)

pub returns : goal.returns
returns c = answered_both (room_faults (length c.args.inputs.now)) told_decision _ _ _ (passed _ c.in_ok-room_outcome.ensures) c.fill.ensures
