-- `program_sentences::put_rise` meets its contract. Assumes nothing.
use Rattle.rules.proofs.Kit.{arith}
use Rattle.rules.specs.{Text.text, Phrases.sentence, Words.rise_words}
use Rattle.splice.proofs.Pieces.{written_then, written, promised}
use Rattle.program_sentences.proofs.put_rise.Goals as goal

pub returns : goal.returns
unfolding rise_words sentence text
returns c =
    let p = c.put_comparing-end.ensures in
    let q = written _ _ _ c.put_byte.ensures.out_after in record {
      out_after = promised (written_then (written _ _ _ p.out_after) q);
      upper_bound = omega (arith, p.upper_bound, q.ends);
    }
