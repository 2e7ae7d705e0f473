-- `program_ask::put_ask` meets its contract. Assumes nothing.
use Rattle.rules.proofs.Kit.{ap, ◌∙◌, sym}
use Rattle.rules.proofs.Faults.{unless_none}
use Rattle.rules.specs.{Numbers.Boundary, Printed.ask_report, Printed.ask_text, Printed.refused_line}
use Rattle.splice.proofs.Pieces.{written, promised_as}
use Rattle.program_ask.proofs.{Asks.answer_passed, Asks.answer_refused}
use Rattle.program_ask.proofs.put_ask.Goals as goal

pub returns-in-Ok : goal.returns-in-Ok
unfolding ask_text
returns-in-Ok c =
    let p = answer_passed _ _ _ c.in-Ok.ensures in
    promised_as (written _ _ _ c.put_asked.ensures) (ap (λ (x : Boundary). ask_report x.decision x) p.1 ∙ sym (unless_none _ refused_line _ p.0))

pub returns-in-Err : goal.returns-in-Err
unfolding ask_text
returns-in-Err c = promised_as (written _ _ _ c.put_refused.ensures.out_after) (answer_refused _ _ _ refused_line _ c.in-Err.ensures)
