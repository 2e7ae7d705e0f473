-- `export_batch::batch_delivered` meets its contract. Assumes nothing.
use Rattle.rules.proofs.Faults.{passed}
use Rattle.export_batch.proofs.{Refusals.row_placeless, Refusals.row-refused, Refusals.row-passed}
use Rattle.export_batch.proofs.batch_delivered.Goals as goal

pub returns-in-Err : goal.returns-in-Err
returns-in-Err c = row-refused _ _ _ _ _ (row_placeless _ _) c.in-Err.ensures c.in-Err.ensures c.refusal_word.ensures

pub row_delivered-requires : goal.row_delivered-requires
row_delivered-requires c = passed _ c.in_default.ensures

pub returns : goal.returns
returns c = row-passed _ _ _ (passed _ c.in_default.ensures) c.row_delivered.ensures
