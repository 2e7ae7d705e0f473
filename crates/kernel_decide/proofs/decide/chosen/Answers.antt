-- `kernel_decide::chosen` meets its contract. Assumes nothing.
use Rattle.rules.proofs.Kit.{◌∙◌, w64}
use mir.Facts.{to_z-of_z}
use Rattle.kernel_decide.specs.Decide.{chosen_from}
use Rattle.kernel_decide.proofs.decide.chosen.Goals as goal

pub returns : goal.returns
unfolding chosen_from
returns c =
    let first = c.utility_of_score in
    let next = c.utility_of_score-2 in
    let best = to_z-of_z {w = w64} {z = first.result} (record { sfits = first.type_inv }) ∙ first.ensures in
    let second = to_z-of_z {w = w64} {z = next.result} (record { sfits = next.type_inv }) ∙ next.ensures in
    rw (c.action_of.ensures, c.reason_of.ensures, best, second)
