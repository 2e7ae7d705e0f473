-- `kernel_utility::utility_for_model` meets its contract. Assumes nothing.
use Rattle.rules.proofs.Kit.{refl}
use Rattle.rules.specs.Decide.{utility_for_model_of}
use Rattle.rules.proofs.Faults.{exit_answer, passed_call, bank_room}
use Rattle.kernel_utility.proofs.utility_for_model.Goals as goal

pub returns-in_err-bank_outcome : goal.returns-in_err-bank_outcome
unfolding utility_for_model_of
returns-in_err-bank_outcome c = exit_answer _ _ _ _ _ c.from_residual.ensures.1 c.in_err-bank_outcome.ensures

pub utility_in-requires : goal.utility_in-requires
utility_in-requires c = bank_room _ refl c.in_ok-bank_outcome.ensures

pub returns : goal.returns
unfolding utility_for_model_of
returns c = passed_call _ _ _ c.in_ok-bank_outcome.ensures c.utility_in.ensures
