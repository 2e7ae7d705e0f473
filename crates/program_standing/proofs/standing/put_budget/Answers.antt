-- `program_standing::standing::put_budget` meets its contract. Assumes nothing.
use Rattle.rules.specs.Text.{text}
use Rattle.splice.proofs.Pieces.{written_then, written, promised_as}
use Rattle.program_standing.proofs.Reasons.{budget_joins}
use Rattle.program_standing.proofs.standing.put_budget.Goals as goal

pub returns-clause-out_after : goal.returns-clause-out_after
unfolding text
returns-clause-out_after c =
    let p = c.put_comparing-next.ensures in
    let q = c.put_about.ensures in
    let a = c.args in
    promised_as (written_then (written _ _ _ p.out_after) (written _ _ _ q.out_after)) (budget_joins a.cost a.budget c.saturating_sub.ensures)
