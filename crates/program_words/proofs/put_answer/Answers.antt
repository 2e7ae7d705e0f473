-- `program_words::put_answer` meets its contract. Assumes nothing.
use Rattle.rules.proofs.Kit.{ℕ, List, ◌≡◌, ◌∙◌, sym, []}
use Rattle.rules.proofs.Faults.{unless_none}
use Rattle.rules.specs.{Records.listed_of, Printed.ask_faults, FaultWords.refused_words, Words.words_report, Words.ask_words}
use Rattle.splice.proofs.Pieces.{written, promised_as}
use Rattle.program_input.specs.Formed.{Formed}
use Rattle.program_input.proofs.Tests.{program_formed, bank_few}
use Rattle.program_ask.proofs.Asks.{asking_passed, answer_passed, answer_refused}
use Rattle.program_words.proofs.put_answer.Goals as goal

-- a question that passes has an input that is formed
formed : (id : ℕ) (input : List ℕ) → ask_faults id input ≡ [] → Formed input
formed id input e = program_formed _ (asking_passed id input e)

pub policy_in-requires : goal.policy_in-requires
policy_in-requires c = formed _ _ (answer_passed _ _ _ c.in-Ok.ensures).0

pub request_in-requires : goal.request_in-requires
request_in-requires c = formed _ _ (answer_passed _ _ _ c.in-Ok.ensures).0

pub bank_in-requires : goal.bank_in-requires
bank_in-requires c = formed _ _ (answer_passed _ _ _ c.in-Ok.ensures).0

pub put_report-requires-clause-bank_bound : goal.put_report-requires-clause-bank_bound
put_report-requires-clause-bank_bound c = rw c.bank_in.ensures (bank_few _ (formed _ _ (answer_passed _ _ _ c.in-Ok.ensures).0))

pub returns-in-Ok : goal.returns-in-Ok
unfolding ask_words
returns-in-Ok c =
    let id = c.args.id in
    let p = answer_passed _ _ _ c.in-Ok.ensures in
    let policy = c.policy_in.ensures in
    let request = c.request_in.ensures in
    let models = c.bank_in.ensures in
    let asked = p.1 in
    promised_as (written _ _ _ c.put_report.ensures)
    ((λ i. words_report (policy i) (request i) (listed_of (models i)) id (asked i)) ∙ sym (unless_none _ (refused_words id) _ p.0))

pub returns-in-Err : goal.returns-in-Err
unfolding ask_words
returns-in-Err c = promised_as (written _ _ _ c.put_refused_words.ensures) (answer_refused _ _ _ (refused_words c.args.id) _ c.in-Err.ensures)
