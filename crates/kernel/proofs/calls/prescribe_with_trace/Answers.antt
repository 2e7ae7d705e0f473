-- `kernel::prescribe_with_trace` meets its contract. Assumes nothing.
use Rattle.rules.proofs.Kit.{refl}
use Rattle.rules.specs.Decide.{prescribe_traced_of}
use Rattle.rules.proofs.Faults.{exit_answer, passed_answer, bank_room}
use Rattle.kernel.proofs.calls.prescribe_with_trace.Goals as goal

pub returns-in_err-bank_outcome : goal.returns-in_err-bank_outcome
unfolding prescribe_traced_of
returns-in_err-bank_outcome c = exit_answer _ _ _ _ _ c.from_residual.ensures.1 c.in_err-bank_outcome.ensures

pub traced-requires : goal.traced-requires
traced-requires c = bank_room _ refl c.in_ok-bank_outcome.ensures

pub returns : goal.returns
unfolding prescribe_traced_of
returns c = passed_answer _ _ _ c.in_ok-bank_outcome.ensures c.traced.ensures
