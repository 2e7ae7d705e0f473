-- `counterfactual_four_levers::margin_levers` meets its contract. Assumes nothing.
use Rattle.rules.proofs.Kit.{arith}
use Rattle.rules.specs.{Choice.equal, Halving.Lowest, Halving.Highest, Margin.margin_levers}
use Rattle.counterfactual_lever.specs.Lever.{widest}
use Rattle.counterfactual_pass.specs.Asked.{question_in}
use Rattle.counterfactual_search.proofs.Searches.{searched-so, after-so, search-few, far-few}
use Rattle.counterfactual_answer.proofs.Notes.{four_sought_lem}
use Rattle.counterfactual_four_levers.proofs.margin.margin_levers.Goals as goal

-- ---- each lever's values fit its field
pub lowest_true-by_quality-requires : goal.lowest_true-by_quality-requires
unfolding widest equal
lowest_true-by_quality-requires c = omega arith

pub highest_below-by_latency-requires : goal.highest_below-by_latency-requires
unfolding widest equal
highest_below-by_latency-requires c = omega arith

pub highest_below-by_price-requires : goal.highest_below-by_price-requires
unfolding widest equal
highest_below-by_price-requires c = omega arith

pub lowest_above-by_ceiling-requires : goal.lowest_above-by_ceiling-requires
unfolding widest equal
lowest_above-by_ceiling-requires c = omega arith

-- ---- the passes are few
pub noted_levers-requires : goal.noted_levers-requires
noted_levers-requires c =
    record {
      by_quality = omega (arith, search-few Lowest _ _ _ c.lowest_true-by_quality.ensures (omega arith));
      by_latency = omega (arith, far-few Highest _ _ _ c.highest_below-by_latency.ensures (omega arith));
      by_price = omega (arith, far-few Highest _ _ _ c.highest_below-by_price.ensures (omega arith));
      by_ceiling = omega (arith, far-few Lowest _ _ _ c.lowest_above-by_ceiling.ensures (omega arith));
    }

-- ---- the four together
pub returns : goal.returns
unfolding margin_levers question_in
returns c =
    four_sought_lem _ c.noted_levers.ensures c.price_cost-cost.ensures
    (searched-so _ _ c.requires c.new-held.result c.new-held.ensures Lowest 1 _ _ c.lowest_true-by_quality.ensures)
    (after-so _ _ c.requires c.new-held.result c.new-held.ensures Highest 2 _ _ c.highest_below-by_latency.ensures)
    (after-so _ _ c.requires c.new-held.result c.new-held.ensures Highest 3 _ _ c.highest_below-by_price.ensures)
    (after-so _ _ c.requires c.new-held.result c.new-held.ensures Lowest 4 _ _ c.lowest_above-by_ceiling.ensures)
