-- `program_ask::ask_outcome` meets its contract. Assumes nothing.
use Rattle.rules.proofs.Faults.{passed}
use Rattle.program_input.proofs.Tests.{program_formed, bank_few}
use Rattle.program_ask.proofs.{Asks.asking_refused, Asks.asking-listed, Asks.asking-unlisted}
use Rattle.program_ask.proofs.ask_outcome.Goals as goal

pub returns-in_err-program_outcome : goal.returns-in_err-program_outcome
returns-in_err-program_outcome c = asking_refused _ _ _ _ c.from_residual.ensures.1 c.in_err-program_outcome.ensures

pub bank_in-requires : goal.bank_in-requires
bank_in-requires c = program_formed _ (passed _ c.in_ok-program_outcome.ensures)

pub first_listed-requires : goal.first_listed-requires
first_listed-requires c = rw c.bank_in.ensures (bank_few _ (program_formed _ (passed _ c.in_ok-program_outcome.ensures)))

pub returns-in-Some : goal.returns-in-Some
returns-in-Some c = asking-listed _ _ _ (passed _ c.in_ok-program_outcome.ensures) c.bank_in.ensures c.first_listed.ensures c.in-Some.is

pub returns-in-None : goal.returns-in-None
returns-in-None c = asking-unlisted _ _ _ (passed _ c.in_ok-program_outcome.ensures) c.bank_in.ensures c.first_listed.ensures c.in-None.is
