-- `program_report::put_unit` meets its contract. Assumes nothing.
use Rattle.rules.proofs.Kit.{rules, ◌∙◌, refl, sym}
use Rattle.rules.proofs.Faults.{passed, unless_none, unless_refused}
use Rattle.rules.specs.{Records.listed_of, Printed.unit_report, Printed.unit_text, Printed.refused_line}
use Rattle.splice.proofs.Pieces.{written, promised_as}
use Rattle.program_input.proofs.Tests.{program_formed, bank_whole}
use Rattle.program_report.proofs.put_unit.Goals as goal

pub returns-in-Err : goal.returns-in-Err
unfolding unit_text
returns-in-Err c = promised_as (written _ _ _ c.put_refused.ensures.out_after) (sym (unless_refused _ refused_line _ refl c.in-Err.ensures))

pub policy_in-requires : goal.policy_in-requires
policy_in-requires c = program_formed _ (passed _ c.in_default.ensures)

pub request_in-requires : goal.request_in-requires
request_in-requires c = program_formed _ (passed _ c.in_default.ensures)

pub bank_in-requires : goal.bank_in-requires
bank_in-requires c = program_formed _ (passed _ c.in_default.ensures)

pub put_report-requires : goal.put_report-requires
put_report-requires c = (search rules, rw c.bank_in.ensures (bank_whole _ (program_formed _ (passed _ c.in_default.ensures))))

pub returns : goal.returns
unfolding unit_text
returns c =
    promised_as (written _ _ _ c.put_report.ensures)
    ((λ i. unit_report (c.policy_in.ensures i) (c.request_in.ensures i) (listed_of (c.bank_in.ensures i)))
    ∙ sym (unless_none _ refused_line _ (passed _ c.in_default.ensures)))
