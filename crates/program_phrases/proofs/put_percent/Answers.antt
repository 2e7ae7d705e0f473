-- `program_phrases::put_percent` meets its contract. Assumes nothing.
use Rattle.rules.proofs.Kit.{arith}
use Rattle.rules.specs.Text.{text}
use Rattle.splice.proofs.Pieces.{written_then, written, promised_as}
use Rattle.program_phrases.proofs.{Joins.percent_joins}
use Rattle.program_phrases.proofs.put_percent.Goals as goal

pub returns : goal.returns
unfolding text
returns c =
    let p = c.put_number-point.ensures in
    let q = written _ _ _ c.put_text-next.ensures.out_after in
    let r = written _ _ _ c.put_text.ensures.out_after in record {
      out_after = promised_as (written_then (written_then (written _ _ _ p.out_after) q) r)
          (percent_joins _ c.last_digit.ensures c.last_digit-2.ensures c.last_digit-3.ensures c.last_digit-4.ensures);
      upper_bound = omega (arith, p.upper_bound, q.ends, r.ends);
    }
