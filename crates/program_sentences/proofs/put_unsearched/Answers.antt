-- `program_sentences::put_unsearched` meets its contract. Assumes nothing.
use Rattle.rules.proofs.Kit.{arith}
use Rattle.rules.specs.Text.{text}
use Rattle.splice.proofs.Pieces.{written_then, written, promised_as}
use Rattle.program_sentences.proofs.{Joins.unsearched_joins}
use Rattle.program_sentences.proofs.put_unsearched.Goals as goal

pub returns : goal.returns
unfolding text
returns c =
    let p = written _ _ _ c.put_text-next.ensures.out_after in
    let q = written _ _ _ c.put_text-end.ensures.out_after in
    let r = c.put_sentence.ensures in record {
      out_after = promised_as (written_then (written_then p q) (written _ _ _ r.out_after)) (unsearched_joins _);
      upper_bound = omega (arith, p.ends, q.ends, r.value);
    }
