-- `call_checks::find` meets its contract. Assumes nothing.
use Rattle.rules.proofs.Kit.{refl}
use Rattle.rules.specs.Listing.{find_of}
use Rattle.rules.proofs.Faults.{exit_answer, passed_answer, bank_room}
use Rattle.call_checks.proofs.listing.find.Goals as goal

pub returns-in_err-bank_outcome : goal.returns-in_err-bank_outcome
unfolding find_of
returns-in_err-bank_outcome c = exit_answer _ _ _ _ _ c.from_residual.ensures.1 c.in_err-bank_outcome.ensures

pub first_listed-requires : goal.first_listed-requires
first_listed-requires c = bank_room _ refl c.in_ok-bank_outcome.ensures

pub returns : goal.returns
unfolding find_of
returns c = passed_answer _ _ _ c.in_ok-bank_outcome.ensures c.first_listed.ensures
