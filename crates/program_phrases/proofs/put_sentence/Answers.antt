-- `program_phrases::put_sentence` meets its contract. Assumes nothing.
use Rattle.rules.proofs.Kit.{arith}
use Rattle.rules.specs.Phrases.{sentence}
use Rattle.splice.proofs.Pieces.{written_then, written, promised}
use Rattle.program_phrases.proofs.put_sentence.Goals as goal

pub returns : goal.returns
unfolding sentence
returns c =
    let p = written _ _ _ c.put_text-end.ensures.out_after in
    let q = written _ _ _ c.put_byte.ensures.out_after in
    record { out_after = promised (written_then p q); value = omega (arith, p.ends, q.ends) }
