-- `batch::over::batch_checked_over` meets its contract. Assumes nothing.
use Rattle.rules.proofs.Kit.{◌++◌, length}
use Rattle.rules.specs.{Numbers.told_decision, Refused.room_faults, Batch.requests_faults}
use Rattle.rules.proofs.Faults.{none_first, passed, room_passed}
use Rattle.batch.proofs.{Batches.refused_both, Batches.answered_both}
use Rattle.batch.proofs.over.batch_checked_over.Goals as goal

pub returns-in_err-checked_outcome : goal.returns-in_err-checked_outcome
returns-in_err-checked_outcome c = refused_both _ _ (λ n. room_faults (length c.args.inputs.now) n ++ requests_faults 0 c.args.inputs.now) told_decision _ _ c.from_residual.ensures.1 c.in_err-checked_outcome.ensures

pub fill-requires-clause-room : goal.fill-requires-clause-room
fill-requires-clause-room c = room_passed _ _ (none_first _ _ (passed _ c.in_ok-checked_outcome.ensures))

pub returns : goal.returns
returns c = answered_both (λ n. room_faults (length c.args.inputs.now) n ++ requests_faults 0 c.args.inputs.now) told_decision _ _ _ (passed _ c.in_ok-checked_outcome.ensures) c.fill.ensures
