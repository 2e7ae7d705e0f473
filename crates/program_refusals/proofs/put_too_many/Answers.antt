-- `program_refusals::put_too_many` meets its contract. Assumes nothing.
use Rattle.rules.specs.Text.{text}
use Rattle.splice.proofs.Pieces.{written_then, written, promised_as}
use Rattle.program_refusals.proofs.{Joins.too_many_joins}
use Rattle.program_refusals.proofs.put_too_many.Goals as goal

pub returns-clause-out_after : goal.returns-clause-out_after
unfolding text
returns-clause-out_after c =
    let q = written _ _ _ c.put_text-end.ensures.out_after in
    let r = written _ _ _ c.put_text.ensures.out_after in
    promised_as (written_then (written_then (written _ _ _ (rw c.from.ensures at c.put_about-next.ensures.out_after)) q) r) (too_many_joins _ _ _)
