-- `program_sentences::put_fall` meets its contract. Assumes nothing.
use Rattle.rules.proofs.Kit.{arith}
use Rattle.rules.specs.{Phrases.sentence, Words.fall_words}
use Rattle.splice.proofs.Pieces.{written_then, written, promised}
use Rattle.program_sentences.specs.Parts.{fall_up, fall_start}
use Rattle.program_sentences.proofs.put_fall.Goals as goal

pub returns : goal.returns
unfolding fall_words sentence fall_start fall_up
returns c =
    let p = c.put_fall_start-next.ensures in
    let q = c.put_then-told.ensures in
    let r = written _ _ _ c.put_byte.ensures.out_after in record {
      out_after = promised (written_then (written_then (written _ _ _ p.out_after) (written _ _ _ q.out_after)) r);
      upper_bound = omega (arith, p.upper_bound, q.upper_bound, r.ends);
    }
