-- `program_words::put_already` meets its contract. Assumes nothing.
use Rattle.rules.specs.{Text.text, NotChosen.of_model, Words.already_words}
use Rattle.splice.proofs.Pieces.{written_then, written, promised}
use Rattle.program_words.proofs.put_already.Goals as goal

pub returns : goal.returns
unfolding already_words of_model text
returns c =
    promised (written_then (written _ _ _ (rw c.from.ensures at c.put_remark-next.ensures.out_after))
    (written _ _ _ c.put_unsearched.ensures.out_after))
