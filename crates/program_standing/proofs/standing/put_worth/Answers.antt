-- `program_standing::standing::put_worth` meets its contract. Assumes nothing.
use Rattle.rules.proofs.Kit.{ap, w64, to_z-of_z}
use Rattle.rules.specs.{Text.text, NotChosen.worth_words}
use Rattle.splice.proofs.Pieces.{written_then, written, promised_as}
use Rattle.program_standing.proofs.standing.put_worth.Goals as goal

pub returns-clause-out_after : goal.returns-clause-out_after
unfolding worth_words text
returns-clause-out_after c =
    let p = written _ _ _ c.put_text-number.ensures.out_after in
    let q = c.put_signed-next.ensures in
    let r = written _ _ _ c.put_text.ensures.out_after in
    promised_as (written_then (written_then p (written _ _ _ q.out_after)) r) (ap worth_words (to_z-of_z w64 c.args.utility c.ranges.utility))
