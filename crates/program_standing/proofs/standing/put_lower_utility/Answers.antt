-- `program_standing::standing::put_lower_utility` meets its contract. Assumes nothing.
use Rattle.rules.proofs.Kit.{ap₂, w64, to_z-of_z}
use Rattle.rules.specs.Text.{text}
use Rattle.splice.proofs.Pieces.{written_then, written, promised_as}
use Rattle.program_standing.specs.Parts.{lower_utility_words}
use Rattle.program_standing.proofs.standing.put_lower_utility.Goals as goal

pub returns-clause-out_after : goal.returns-clause-out_after
unfolding lower_utility_words text
returns-clause-out_after c =
    let p = written _ _ _ c.put_text-number.ensures.out_after in
    let q = c.put_signed-next.ensures in
    let r = written _ _ _ c.put_text-other.ensures.out_after in
    let s = c.put_signed-end.ensures in
    let t = written _ _ _ c.put_text.ensures.out_after in
    promised_as (written_then (written_then (written_then (written_then p (written _ _ _ q.out_after)) r) (written _ _ _ s.out_after)) t)
    (ap₂ lower_utility_words (to_z-of_z w64 c.args.utility c.ranges.utility) (to_z-of_z w64 c.args.best c.ranges.best))
