-- `counterfactual_search::halved`: of the range, so much is left. Assumes nothing.
use Rattle.rules.proofs.Kit.{◌-◌}
use Rattle.counterfactual_search.specs.Search.{told_side, wins_on}
use Rattle.counterfactual_search.proofs.Halves.{Left}
use Rattle.counterfactual_search.proofs.search.halved.Given as goal

abbrev pub invariant-loop-low : goal.invariant-loop-low
invariant-loop-low l = Left (told_side l.side) (wins_on l.held l.lever) l.fn.low l.fn.high l.low l.high l.passes

abbrev pub decreases-loop-low : goal.decreases-loop-low
decreases-loop-low l = l.high - l.low
