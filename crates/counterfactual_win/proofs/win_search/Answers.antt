-- `counterfactual_win::win_search` meets its contract. Assumes nothing.
use Rattle.rules.proofs.Kit.{arith, sym, ap, ◌∙◌}
use Rattle.rules.specs.Choice.{equal}
use Rattle.counterfactual_lever.specs.Lever.{widest}
use Rattle.counterfactual_pass.specs.Asked.{question_in}
use Rattle.counterfactual_pass.proofs.Passes.{as_asked, wins-so}
use Rattle.counterfactual_answer.specs.Levers.{room_of}
use Rattle.counterfactual_win.proofs.{Wins.search-on, Wins.search-off, Wins.off_found, Wins.off_lost}
use Rattle.counterfactual_win.proofs.win_search.Goals as goal

pub returns-then-asked-ne0 : goal.returns-then-asked-ne0
unfolding question_in
returns-then-asked-ne0 c = c.win_levers.ensures ∙ ap room_of (sym (search-on _ c.if-asked-ne0.true))

pub wins-requires : goal.wins-requires
unfolding widest equal
wins-requires c = omega arith

pub returns-then-wins : goal.returns-then-wins
unfolding question_in
returns-then-wins c =
    let e = wins-so _ _ c.requires 5 1 (c.wins.ensures ∙ as_asked _ c.new.ensures 5 1) in
    off_found c.no_levers.ensures c.plain.ensures c.push.ensures
    ∙ ap room_of (sym (search-off _ _ c.if-asked-ne0.false (sym e ∙ c.if-wins.true)))

pub returns : goal.returns
unfolding question_in
returns c =
    let e = wins-so _ _ c.requires 5 1 (c.wins.ensures ∙ as_asked _ c.new.ensures 5 1) in
    off_lost c.no_levers-2.ensures
    ∙ ap room_of (sym (search-off _ _ c.if-asked-ne0.false (sym e ∙ c.if-wins.false)))
