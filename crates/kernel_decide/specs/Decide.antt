-- The decision that a scan's state comes to.
use Rattle.std.specs.Prelude.{ℕ}
use Rattle.rules.specs.Choice.{equal}
use Rattle.rules.specs.Numbers.{Decision}
use Rattle.rules.specs.Count.{dominant_of}
use Rattle.rules.specs.Decide.{rejection, executed_as}
use Rattle.rules.specs.declared.records.KernelInput.{KernelInput}
use Rattle.rules.specs.declared.records.PolicySnapshot.{PolicySnapshot}
use Rattle.pricing_terms.specs.Score.{unscored}
use Rattle.kernel_ranking.specs.declared.state.State.{State}

-- D26. The best is chosen, and the second is the counterfactual
unfoldable pub chosen_from : PolicySnapshot → KernelInput → State → ℕ → Decision
chosen_from p q s evaluated =
    record {
      sequence = q.request_sequence;
      action = executed_as s.top.best.model_id q.requested_model_id;
      reason = executed_as s.top.best.model_id q.requested_model_id;
      model = s.top.best.model_id;
      place = s.top.best.model_index;
      cost = s.top.best.cost;
      utility = unscored s.top.best.score;
      counterfactual = s.top.second.model_id;
      counterfactual_utility = unscored s.top.second.score;
      evaluated = evaluated;
      eligible = s.eligible;
      policy_epoch = p.policy_epoch;
      catalog_epoch = p.catalog_epoch;
    }

-- D24, D26. Where nothing is eligible, the reason of the largest count
unfoldable pub decision_of_scan : PolicySnapshot → KernelInput → State → ℕ → Decision
decision_of_scan p q s evaluated =
    equal s.eligible 0 (rejection p q (dominant_of s.counts) evaluated) (chosen_from p q s evaluated)
