-- `program_words::put_unchosen` meets its contract. Assumes nothing.
use Rattle.splice.proofs.Pieces.{written_then, written, promised}
use Rattle.program_words.proofs.put_unchosen.Goals as goal

pub returns : goal.returns
returns c =
    promised (written_then (written _ _ _ c.put_standing-next.ensures.out_after)
    (written _ _ _ c.put_searched.ensures.out_after))
