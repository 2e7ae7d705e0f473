-- `batch::live::prescribe_batch` meets its contract: it reads the live records and passes on. Assumes nothing.
use Rattle.rules.proofs.Kit.{refl}
use Rattle.rules.specs.Live.{live_batch_of, live_batch_row}
use Rattle.rules.specs.{Numbers.told_decision, Batch.batch_faults_over, Slots.live_records}
use Rattle.rules.proofs.Faults.{append_refused}
use Rattle.live_slots.proofs.Told.{number_refused}
use Rattle.kernel_among.proofs.Lives.{slots_clean, slots-among, slots_read}
use Rattle.batch.proofs.Batches.{refused_both}
use Rattle.batch.proofs.live.prescribe_batch.Goals as goal

pub returns-in_err-many : goal.returns-in_err-many
unfolding live_batch_of live_batch_row
returns-in_err-many c =
    refused_both _ _ (batch_faults_over (live_records c.args.bank.now) c.args.inputs.now) told_decision _ _ c.from_residual.ensures.1
    (append_refused _ _ refl (number_refused _ _ _ c.in_err-many.ensures))

pub batch_over-requires : goal.batch_over-requires
batch_over-requires c = slots-among _ _ c.in_ok-many.ensures

pub returns : goal.returns
unfolding live_batch_of live_batch_row
returns c =
    rw (slots_clean _ _ c.in_ok-many.ensures, ← slots_read _ _ c.in_ok-many.ensures) c.batch_over.ensures
