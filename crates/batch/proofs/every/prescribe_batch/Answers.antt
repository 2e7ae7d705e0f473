-- `batch::every::prescribe_batch` meets its contract: it reads every record and passes on. Assumes nothing.
use Rattle.rules.proofs.Kit.{refl}
use Rattle.rules.specs.Batch.{batch_faults_over, batch_of, batch_row}
use Rattle.rules.specs.{Numbers.told_decision, Listing.every_record}
use Rattle.rules.proofs.Faults.{append_refused}
use Rattle.live_slots.proofs.Told.{number_refused}
use Rattle.batch_checks.proofs.Readings.{every_read}
use Rattle.batch.proofs.Batches.{refused_both}
use Rattle.batch.proofs.every.prescribe_batch.Goals as goal

pub returns-in_err-many : goal.returns-in_err-many
unfolding batch_of batch_row
returns-in_err-many c =
    refused_both _ _ (batch_faults_over (every_record c.args.bank.now) c.args.inputs.now) told_decision _ _ c.from_residual.ensures.1
    (append_refused _ _ refl (number_refused _ _ _ c.in_err-many.ensures))

pub returns : goal.returns
unfolding batch_of batch_row
returns c =
    let p = every_read _ _ c.in_ok-many.ensures in
    rw (p.0, ← p.2) c.batch_over.ensures
