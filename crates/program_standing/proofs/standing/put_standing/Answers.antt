-- `program_standing::standing::put_standing` meets its contract. Assumes nothing.
use Rattle.rules.specs.{Text.text, NotChosen.standing_words}
use Rattle.splice.proofs.Pieces.{written_then, written, promised_as}
use Rattle.program_standing.proofs.Reasons.{model_joins}
use Rattle.program_standing.proofs.standing.put_standing.Goals as goal

pub returns-clause-out_after : goal.returns-clause-out_after
unfolding standing_words text
returns-clause-out_after c =
    let p = c.put_about-next.ensures in
    let q = c.put_reason-end.ensures in
    let r = written _ _ _ c.put_byte.ensures.out_after in
    promised_as (written_then (written_then (written _ _ _ (rw c.from.ensures at p.out_after)) (written _ _ _ q.out_after)) r) (model_joins _ _)
