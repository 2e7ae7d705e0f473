-- `counterfactual_four_levers::price_cost` meets its contract. Assumes nothing.
use Rattle.rules.proofs.Kit.{rules}
use Rattle.rules.specs.{Choice.equal}
use Rattle.counterfactual_lever.specs.Lever.{widest}
use Rattle.counterfactual_four_levers.proofs.cost.price_cost.Goals as goal

pub decision_at-requires : goal.decision_at-requires
unfolding widest equal
decision_at-requires c =
    record { stands = c.requires; fits = search rules }
