-- `program_refusals::put_field_sentence` meets its contract. Assumes nothing.
use Rattle.rules.specs.Phrases.{sentence}
use Rattle.splice.proofs.Pieces.{written_then, written, promised}
use Rattle.program_refusals.proofs.put_field_sentence.Goals as goal

pub returns-clause-out_after : goal.returns-clause-out_after
unfolding sentence
returns-clause-out_after c =
    let p = c.put_field-end.ensures in
    let q = written _ _ _ c.put_byte.ensures.out_after in
    promised (written_then (written _ _ _ p.out_after) q)
