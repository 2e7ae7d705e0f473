-- `program_phrases::put_remark` meets its contract. Assumes nothing.
use Rattle.rules.proofs.Kit.{arith}
use Rattle.rules.specs.Phrases.{sentence}
use Rattle.splice.proofs.Pieces.{written_then, written, promised}
use Rattle.program_phrases.proofs.put_remark.Goals as goal

pub returns : goal.returns
unfolding sentence
returns c =
    let p = c.put_about-end.ensures in
    let q = written _ _ _ c.put_byte.ensures.out_after in
    record { out_after = promised (written_then (written _ _ _ p.out_after) q); upper_bound = omega (arith, p.upper_bound, q.ends) }
