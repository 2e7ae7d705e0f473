-- `program_words::put_report` meets its contract. Assumes nothing.
use Rattle.rules.specs.Words.{words_report}
use Rattle.splice.proofs.Pieces.{written_then, written, promised}
use Rattle.program_words.proofs.put_report.Goals as goal

pub returns : goal.returns
unfolding words_report
returns c =
    let choice = written _ _ _ c.put_choice-chosen.ensures.out_after in
    let requested = written _ _ _ c.put_requested-next.ensures.out_after in
    promised (written_then (written_then choice requested) (written _ _ _ c.put_listed.ensures))
