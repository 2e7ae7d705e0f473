-- `program_report::put_report` meets its contract. Assumes nothing.
use Rattle.splice.proofs.Pieces.{written_then, written, promised_as}
use Rattle.program_report.proofs.{Reports.traced-ok, Reports.traced-decision, Reports.traced-counts, Reports.margin_told, Reports.report_joins}
use Rattle.program_report.proofs.{Reports.refused_joins}
use Rattle.program_report.proofs.put_report.Goals as goal

pub unwrap-requires : goal.unwrap-requires
unwrap-requires c = traced-ok _ _ _ _ c.prescribe_with_trace.ensures c.requires.1

pub returns-in-Ok : goal.returns-in-Ok
returns-in-Ok c =
    let h = c.prescribe_with_trace.ensures in
    promised_as (written_then (written_then
    (written _ _ _ c.put_decision-counts.ensures.out_after)
    (written _ _ _ c.put_counts-next.ensures.out_after))
    (written _ _ _ c.put_lever_lines.ensures.out_after))
    (report_joins _ _ _ (traced-decision _ _ _ _ h c.unwrap.ensures) (traced-counts _ _ _ _ h c.unwrap.ensures)
    (margin_told _ _ _ c.requires.1 c.in-Ok.ensures))

pub returns-in-Err : goal.returns-in-Err
returns-in-Err c =
    let h = c.prescribe_with_trace.ensures in
    promised_as (written_then (written _ _ _ c.put_decision-counts.ensures.out_after) (written _ _ _ c.put_counts-next.ensures.out_after))
    (refused_joins _ _ _ _ (traced-decision _ _ _ _ h c.unwrap.ensures) (traced-counts _ _ _ _ h c.unwrap.ensures)
    (margin_told _ _ _ c.requires.1 c.in-Err.ensures))
