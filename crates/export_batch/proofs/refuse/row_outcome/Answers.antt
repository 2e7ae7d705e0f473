-- `export_batch::refuse::row_outcome` meets its contract. Assumes nothing.
use Rattle.rules.proofs.Kit.{refl}
use Rattle.rules.proofs.Faults.{append_refused, exit_outcome, passed}
use Rattle.export_batch.specs.Batches.{batch_call_faults}
use Rattle.export_batch.proofs.{Rows.length_requests}
use Rattle.export_batch.proofs.refuse.row_outcome.Goals as goal

pub returns-in_err-row_size_outcome : goal.returns-in_err-row_size_outcome
unfolding batch_call_faults
returns-in_err-row_size_outcome c =
    exit_outcome _ _ _ _ c.from_residual.ensures.1 (append_refused _ _ refl c.in_err-row_size_outcome.ensures)

pub returns-in_err-policy_lent_outcome : goal.returns-in_err-policy_lent_outcome
unfolding batch_call_faults
returns-in_err-policy_lent_outcome c =
    rw (passed _ c.in_ok-row_size_outcome.ensures)
    (exit_outcome _ _ _ _ c.from_residual-in_err-policy_lent_outcome.ensures.1 c.in_err-policy_lent_outcome.ensures)

pub returns : goal.returns
unfolding batch_call_faults
returns c =
    rw (passed _ c.in_ok-row_size_outcome.ensures, passed _ c.in_ok-policy_lent_outcome.ensures, length_requests _ 0 _) c.lent_outcome.ensures
