-- `program_sentences::put_searched` meets its contract. Assumes nothing.
use Rattle.rules.specs.Numbers.{told_boundaries}
use Rattle.splice.proofs.Pieces.{written, promised_as}
use Rattle.program_sentences.proofs.{Joins.searched_off, Joins.searched_on}
use Rattle.program_sentences.proofs.put_searched.Goals as goal

pub returns-then-off : goal.returns-then-off
returns-then-off c =
    let w = c.put_off.ensures in record {
      out_after = promised_as (written _ _ _ w.out_after) (searched_off (told_boundaries c.args.asked) c.if-off.true);
      upper_bound = w.upper_bound;
    }

pub returns : goal.returns
returns c =
    let w = c.put_on.ensures in record {
      out_after = promised_as (written _ _ _ w.out_after) (searched_on (told_boundaries c.args.asked) c.if-off.false);
      upper_bound = w.upper_bound;
    }
