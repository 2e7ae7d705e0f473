-- `program_ask::asked` meets its contract. Assumes nothing.
use Rattle.rules.proofs.Faults.{exit_answer, passed}
use Rattle.program_ask.proofs.{Asks.asking_formed, Asks.win_told, Asks.answer_told}
use Rattle.program_ask.proofs.asked.Goals as goal

pub returns-in_err-ask_outcome : goal.returns-in_err-ask_outcome
returns-in_err-ask_outcome c = exit_answer _ _ _ _ _ c.from_residual.ensures.1 c.in_err-ask_outcome.ensures

pub policy_in-requires : goal.policy_in-requires
policy_in-requires c = asking_formed _ _ c.in_ok-ask_outcome.ensures

pub bank_in-requires : goal.bank_in-requires
bank_in-requires c = asking_formed _ _ c.in_ok-ask_outcome.ensures

pub request_in-requires : goal.request_in-requires
request_in-requires c = asking_formed _ _ c.in_ok-ask_outcome.ensures

pub returns : goal.returns
returns c =
    answer_told _ _ _ (passed _ c.in_ok-ask_outcome.ensures)
    (win_told _ _ (asking_formed _ _ c.in_ok-ask_outcome.ensures) c.policy_in.ensures c.request_in.ensures c.bank_in.ensures c.what_would_win.ensures)
