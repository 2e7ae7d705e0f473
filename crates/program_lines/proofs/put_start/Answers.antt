-- `program_lines::put_start` meets its contract. Assumes nothing.
use Rattle.rules.proofs.Kit.{arith, w64, SFits, to_z-of_z, rules}
use Rattle.rules.specs.{Numbers.told_decision, Text.text}
use Rattle.splice.proofs.Pieces.{written_then, written, promised_as}
use Rattle.program_lines.proofs.{Joins.start_joins}
use Rattle.program_lines.proofs.put_start.Goals as goal

pub returns : goal.returns
unfolding text
returns c =
    let p = written _ _ _ c.put_text-named.ensures.out_after in
    let q = c.put_words-next.ensures in
    let r = c.put_signed_word.ensures in
    let d = c.args.decision in
    let f : SFits w64 d.expected_utility_microunits = record { sfits = search rules } in
    record {
      out_after = promised_as (written_then (written_then p (written _ _ _ q.out_after)) (written _ _ _ r.out_after))
          (start_joins (told_decision d) c.number.ensures c.number-2.ensures (to_z-of_z w64 _ f));
      upper_bound = omega (arith, p.ends, q.upper_bound, r.upper_bound);
    }
