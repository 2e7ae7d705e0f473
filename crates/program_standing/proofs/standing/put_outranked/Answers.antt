-- `program_standing::standing::put_outranked` meets its contract. Assumes nothing.
use Rattle.rules.specs.{Text.text, NotChosen.outranked_words}
use Rattle.splice.proofs.Pieces.{written_then, written, promised}
use Rattle.program_standing.proofs.standing.put_outranked.Goals as goal

pub returns-clause-out_after : goal.returns-clause-out_after
unfolding outranked_words text
returns-clause-out_after c =
    let p = c.put_about-next.ensures in
    let q = c.put_key.ensures in
    promised (written_then (written _ _ _ (rw c.from.ensures at p.out_after)) (written _ _ _ q.out_after))
