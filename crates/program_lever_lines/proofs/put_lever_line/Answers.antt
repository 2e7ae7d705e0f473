-- `program_lever_lines::put_lever_line` meets its contract. Assumes nothing.
use Rattle.rules.proofs.Kit.{arith}
use Rattle.rules.specs.Text.{text}
use Rattle.splice.proofs.Pieces.{written_then, written, promised_as}
use Rattle.program_lever_lines.proofs.{Joins.lever_joins}
use Rattle.program_lever_lines.proofs.put_lever_line.Goals as goal

pub returns : goal.returns
unfolding text
returns c =
    let p = written _ _ _ c.put_text-named.ensures.out_after in
    let q = c.put_words-next.ensures in
    let r = c.put_cost-end.ensures in
    let s = written _ _ _ c.put_byte.ensures.out_after in
    record {
      out_after = promised_as (written_then (written_then (written_then p (written _ _ _ q.out_after)) (written _ _ _ r.out_after)) s) (lever_joins _);
      upper_bound = omega (arith, p.ends, q.upper_bound, r.upper_bound, s.ends);
    }
