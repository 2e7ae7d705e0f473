-- `kernel::prescribe_with_trace_checked` meets its contract. Assumes nothing.
use Rattle.rules.proofs.Kit.{refl}
use Rattle.rules.specs.Decide.{prescribe_traced_checked_of}
use Rattle.rules.proofs.Faults.{exit_answer, passed_answer, checked_room}
use Rattle.kernel.proofs.calls.prescribe_with_trace_checked.Goals as goal

pub returns-in_err-checked_outcome : goal.returns-in_err-checked_outcome
unfolding prescribe_traced_checked_of
returns-in_err-checked_outcome c = exit_answer _ _ _ _ _ c.from_residual.ensures.1 c.in_err-checked_outcome.ensures

pub traced-requires : goal.traced-requires
traced-requires c = checked_room _ _ refl c.in_ok-checked_outcome.ensures

pub returns : goal.returns
unfolding prescribe_traced_checked_of
returns c = passed_answer _ _ _ c.in_ok-checked_outcome.ensures c.traced.ensures
