-- `program_words::put_stopped` meets its contract. Assumes nothing.
use Rattle.rules.specs.{Text.text, Words.stopped_words}
use Rattle.splice.proofs.Pieces.{written_then, written, promised}
use Rattle.program_words.proofs.put_stopped.Goals as goal

pub returns : goal.returns
unfolding stopped_words text
returns c =
    promised (written_then (written _ _ _ c.put_sentence-next.ensures.out_after)
    (written _ _ _ c.put_unsearched.ensures.out_after))
