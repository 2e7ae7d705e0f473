-- `counterfactual_search::searched` meets its contract, by the cases of the search. Assumes nothing.
use Rattle.rules.proofs.Kit.{sym, ◌∙◌}
use Rattle.rules.proofs.Halvings.{search-empty, search_no, search-yes}
use Rattle.counterfactual_search.proofs.search.searched.Goals as goal

pub returns-then-high-low : goal.returns-then-high-low
returns-then-high-low c = sym (search-empty _ _ _ _ c.if-high-low.true)

pub returns-then-not-wins : goal.returns-then-not-wins
returns-then-not-wins c = sym (search_no _ _ _ _ c.if-high-low.false (rw (← c.first_tried.ensures) (sym c.if-not-wins.ensures)))

pub returns : goal.returns
returns c = c.halved.ensures ∙ sym (search-yes _ _ _ _ c.if-high-low.false (rw (← c.first_tried.ensures) (sym c.if-not-wins.ensures)))
