-- `counterfactual_pass::wins` meets its contract. Assumes nothing.
use Rattle.rules.proofs.Kit.{◌∙◌}
use Rattle.counterfactual_pass.specs.Asked.{wins_by}
use Rattle.counterfactual_pass.proofs.held.Held.wins.Goals as goal

pub returns : goal.returns
unfolding wins_by
returns c = c.has_id.ensures ∙ rw (c.best_with-best.ensures, c.lever_at-model.ensures)
