-- `program_standing::choice::put_stopped` meets its contract. Assumes nothing.
use Rattle.rules.specs.{Text.text, Phrases.sentence}
use Rattle.splice.proofs.Pieces.{written_then, written, promised}
use Rattle.program_standing.proofs.choice.put_stopped.Goals as goal

pub returns-clause-out_after : goal.returns-clause-out_after
unfolding sentence text
returns-clause-out_after c =
    let p = c.put_comparing-end.ensures in
    let q = written _ _ _ c.put_byte.ensures.out_after in
    promised (written_then (written _ _ _ (rw (c.from.ensures, c.from-2.ensures) at p.out_after)) q)
