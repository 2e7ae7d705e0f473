-- `text::put_line` meets its contract. Assumes nothing.
use Rattle.rules.specs.Text.{line}
use Rattle.splice.proofs.Pieces.{written_then, written, promised}
use Rattle.text.proofs.put_line.Goals as goal

pub returns-clause-out_after : goal.returns-clause-out_after
unfolding line
returns-clause-out_after c =
    let name = written _ _ _ c.put_text-named.ensures.out_after in
    let words = written _ _ _ c.put_words-end.ensures.out_after in
    promised (written_then (written_then name words) (written _ _ _ c.put_byte.ensures.out_after))
