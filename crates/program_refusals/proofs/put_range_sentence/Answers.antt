-- `program_refusals::put_range_sentence` meets its contract. Assumes nothing.
use Rattle.rules.specs.Text.{text}
use Rattle.splice.proofs.Pieces.{written_then, written, promised_as}
use Rattle.program_refusals.proofs.{Joins.model_joins}
use Rattle.program_refusals.proofs.put_range_sentence.Goals as goal

pub returns-clause-out_after : goal.returns-clause-out_after
unfolding text
returns-clause-out_after c =
    let r = written _ _ _ c.put_byte.ensures.out_after in
    promised_as (written_then (written_then (written _ _ _ (rw c.from.ensures at c.put_about-next.ensures.out_after)) (written _ _ _ c.put_range-end.ensures.out_after)) r) (model_joins _ _)
