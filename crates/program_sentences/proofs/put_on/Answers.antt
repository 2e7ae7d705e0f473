-- `program_sentences::put_on` meets its contract. Assumes nothing.
use Rattle.rules.proofs.Kit.{arith}
use Rattle.rules.specs.{Text.text, Numbers.told_boundaries}
use Rattle.splice.proofs.Pieces.{written_then, written, promised_as}
use Rattle.program_sentences.proofs.{Joins.on_none, Joins.on_some}
use Rattle.program_sentences.proofs.put_on.Goals as goal

pub returns-then-asked-eq0 : goal.returns-then-asked-eq0
unfolding text
returns-then-asked-eq0 c =
    let p = c.put_price-next.ensures in
    let q = c.put_sentence.ensures in record {
      out_after = promised_as (written_then (written _ _ _ p.out_after) (written _ _ _ q.out_after))
          (on_none (told_boundaries c.args.asked) c.if-asked-eq0.true);
      upper_bound = omega (arith, p.upper_bound, q.value);
    }

pub returns : goal.returns
returns c =
    let p = c.put_price-next.ensures in
    let q = c.put_levers_words.ensures in record {
      out_after = promised_as (written_then (written _ _ _ p.out_after) (written _ _ _ q.out_after))
          (on_some (told_boundaries c.args.asked)
          c.if-asked-eq0.false);
      upper_bound = omega (arith, p.upper_bound, q.upper_bound);
    }
