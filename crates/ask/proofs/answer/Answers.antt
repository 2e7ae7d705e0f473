-- `ask::answer` meets its contract. Assumes nothing.
use Rattle.rules.proofs.Kit.{arith}
use Rattle.ask.specs.Answer.{answer_text}
use Rattle.program_deliver.proofs.Answers.{printed-counts, printed-whole}
use Rattle.ask.proofs.answer.Goals as goal

pub returns-in-Lines-clause-prefix_len : goal.returns-in-Lines-clause-prefix_len
unfolding answer_text
returns-in-Lines-clause-prefix_len c =
    let u = c.ask_text.ensures in
    printed-counts _ _ (omega (arith, u.2, c.requires)) u.0 u.1 c.end_of.ensures

pub returns-in-Lines-clause-out_after : goal.returns-in-Lines-clause-out_after
unfolding answer_text
returns-in-Lines-clause-out_after c =
    let u = c.ask_text.ensures in
    rw c.in-Lines.is (printed-whole _ _ (omega (arith, u.2, c.requires)) u.0 u.1 c.end_of.ensures)

pub returns-in-Words-clause-prefix_len : goal.returns-in-Words-clause-prefix_len
unfolding answer_text
returns-in-Words-clause-prefix_len c =
    let u = c.ask_words.ensures in
    printed-counts _ _ (omega (arith, u.2, c.requires)) u.0 u.1 c.end_of-in-Words.ensures

pub returns-in-Words-clause-out_after : goal.returns-in-Words-clause-out_after
unfolding answer_text
returns-in-Words-clause-out_after c =
    let u = c.ask_words.ensures in
    rw c.in-Words.is (printed-whole _ _ (omega (arith, u.2, c.requires)) u.0 u.1 c.end_of-in-Words.ensures)
