-- `view::view_decide` meets its contract. Assumes nothing.
use Rattle.rules.proofs.Kit.{refl}
use Rattle.rules.proofs.Faults.{exit_answer, passed_answer, bank_room}
use Rattle.rules.specs.{View.view_of}
use Rattle.view.proofs.view_decide.Goals as goal

pub returns-in_err-bank_outcome : goal.returns-in_err-bank_outcome
unfolding view_of
returns-in_err-bank_outcome c = exit_answer _ _ _ _ _ c.from_residual.ensures.1 c.in_err-bank_outcome.ensures

pub decide_in-requires : goal.decide_in-requires
decide_in-requires c = bank_room _ refl c.in_ok-bank_outcome.ensures

pub returns : goal.returns
unfolding view_of
returns c = passed_answer _ _ _ c.in_ok-bank_outcome.ensures c.decide_in.ensures
