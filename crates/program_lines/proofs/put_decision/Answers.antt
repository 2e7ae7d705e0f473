-- `program_lines::put_decision` meets its contract. Assumes nothing.
use Rattle.rules.proofs.Kit.{arith, w64, SFits, to_z-of_z, rules}
use Rattle.rules.specs.Numbers.{told_decision}
use Rattle.splice.proofs.Pieces.{written_then, written, promised_as}
use Rattle.program_lines.proofs.{Joins.decision_joins}
use Rattle.program_lines.proofs.put_decision.Goals as goal

pub returns : goal.returns
returns c =
    let p = c.put_start-start.ensures in
    let q = c.put_word-other.ensures in
    let r = c.put_signed_word-worth.ensures in
    let s = c.put_words-end.ensures in
    let t = written _ _ _ c.put_byte.ensures.out_after in
    let d = c.args.decision in
    let f : SFits w64 d.counterfactual_utility_microunits = record { sfits = search rules } in
    record {
      out_after = promised_as (written_then (written_then (written_then (written_then (written _ _ _ p.out_after) (written _ _ _ (rw c.from.ensures at q.out_after))) (written _ _ _ r.out_after))
          (written _ _ _ s.out_after)) t) (decision_joins (told_decision d) (to_z-of_z w64 _ f));
      upper_bound = omega (arith, p.upper_bound, q.upper_bound, r.upper_bound, s.upper_bound, t.ends);
    }
