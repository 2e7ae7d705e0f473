-- `program_ask::put_asked` meets its contract. Assumes nothing.
use Rattle.rules.specs.{Text.text, Printed.passes_line, Printed.ask_report}
use Rattle.splice.proofs.Pieces.{written_then, written, promised}
use Rattle.program_ask.proofs.put_asked.Goals as goal

pub returns : goal.returns
unfolding ask_report passes_line text
returns c =
    promised (written_then (written_then
    (written _ _ _ c.put_decision-next.ensures.out_after)
    (written _ _ _ c.put_lever_lines-end.ensures.out_after))
    (written _ _ _ c.put_line.ensures.out_after))
