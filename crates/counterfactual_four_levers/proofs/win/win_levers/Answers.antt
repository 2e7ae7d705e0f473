-- `counterfactual_four_levers::win_levers` meets its contract. Assumes nothing.
use Rattle.rules.proofs.Kit.{arith}
use Rattle.rules.specs.{Choice.equal, Halving.Lowest, Halving.Highest, Win.win_levers}
use Rattle.counterfactual_lever.specs.Lever.{widest}
use Rattle.counterfactual_pass.specs.Asked.{question_in}
use Rattle.counterfactual_search.proofs.Searches.{searched-so, search-few}
use Rattle.counterfactual_answer.proofs.Notes.{four_sought_lem}
use Rattle.counterfactual_four_levers.proofs.win.win_levers.Goals as goal

-- ---- each lever's values fit its field
pub lowest_true-by_quality-requires : goal.lowest_true-by_quality-requires
unfolding widest equal
lowest_true-by_quality-requires c = omega arith

pub highest_true-by_latency-requires : goal.highest_true-by_latency-requires
unfolding widest equal
highest_true-by_latency-requires c = omega arith

pub highest_true-by_price-requires : goal.highest_true-by_price-requires
unfolding widest equal
highest_true-by_price-requires c = omega arith

pub lowest_true-by_ceiling-requires : goal.lowest_true-by_ceiling-requires
unfolding widest equal
lowest_true-by_ceiling-requires c = omega arith

-- ---- the passes are few
pub noted_levers-requires : goal.noted_levers-requires
noted_levers-requires c =
    record {
      by_quality = omega (arith, search-few Lowest _ _ _ c.lowest_true-by_quality.ensures (omega arith));
      by_latency = omega (arith, search-few Highest _ _ _ c.highest_true-by_latency.ensures (omega arith));
      by_price = omega (arith, search-few Highest _ _ _ c.highest_true-by_price.ensures (omega arith));
      by_ceiling = omega (arith, search-few Lowest _ _ _ c.lowest_true-by_ceiling.ensures (omega arith));
    }

-- ---- the four together
pub returns : goal.returns
unfolding win_levers question_in
returns c =
    four_sought_lem _ c.noted_levers.ensures c.price_cost-cost.ensures
    (searched-so _ _ c.requires c.new-held.result c.new-held.ensures Lowest 1 _ _ c.lowest_true-by_quality.ensures)
    (searched-so _ _ c.requires c.new-held.result c.new-held.ensures Highest 2 _ _ c.highest_true-by_latency.ensures)
    (searched-so _ _ c.requires c.new-held.result c.new-held.ensures Highest 3 _ _ c.highest_true-by_price.ensures)
    (searched-so _ _ c.requires c.new-held.result c.new-held.ensures Lowest 4 _ _ c.lowest_true-by_ceiling.ensures)
