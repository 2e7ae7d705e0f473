-- `counterfactual_search::searched_after` meets its contract. Assumes nothing.
use Rattle.rules.proofs.Kit.{arith, sym, ap, ◌∙◌}
use Rattle.rules.specs.Halving.{later_by}
use Rattle.rules.proofs.Halvings.{margin-none, margin-some}
use Rattle.counterfactual_search.proofs.{Searches.search-few}
use Rattle.counterfactual_search.proofs.far.searched_after.Goals as goal

pub returns-then-wins : goal.returns-then-wins
returns-then-wins c = sym (margin-none _ _ _ _ (rw (← c.far_end.ensures) (sym c.if-wins.ensures)))

pub overflow_add-found : goal.overflow_add-found
overflow_add-found c = omega (arith, search-few _ _ _ _ c.searched-found.ensures (omega arith))

pub returns : goal.returns
returns c = ap (later_by 1) c.searched-found.ensures ∙ sym (margin-some _ _ _ _ (rw (← c.far_end.ensures) (sym c.if-wins.ensures)))
