-- `counterfactual_win::win_among` meets its contract. Assumes nothing.
use Rattle.rules.proofs.Kit.{sym, ap, ◌∙◌}
use Rattle.rules.specs.{Levers.selects, Numbers.told_option}
use Rattle.call_checks.proofs.Finding.{found_at}
use Rattle.counterfactual_pass.proofs.Listed.{stands_at}
use Rattle.counterfactual_answer.proofs.Rooms.{answer_made}
use Rattle.counterfactual_win.proofs.{Wins.empty_room_lem, Wins.win-stopped, Wins.win-selected, Wins.win-sought, Wins.win_nowhere, Wins.win-listed}
use Rattle.counterfactual_win.proofs.{Wins.first-of-all, Wins.sought-at, Wins.free_by}
use Rattle.counterfactual_win.proofs.win_among.Goals as goal

pub returns-in_default : goal.returns-in_default
returns-in_default c = sym (win_nowhere _ _ _ _ (sym c.requires.0 ∙ ap told_option c.in_default.is))

pub returns-then-is_some : goal.returns-then-is_some
returns-then-is_some c =
    let h = c.requires in
    answer_made _ _ _ c.decide_among-opening.ensures.decision (c.no_levers.ensures ∙ empty_room_lem) c.answered.ensures
    ∙ sym (win-listed _ _ _ _ h.1 (sym h.0 ∙ ap told_option c.in-Some.is) _ _
    ∙ win-stopped _ _ _ c.if-is_some.ensures c.stopped_by.ensures)

pub returns-then-selected : goal.returns-then-selected
returns-then-selected c =
    let h = c.requires in
    let d = c.decide_among-opening.ensures.decision in
    answer_made _ _ _ d (c.no_levers-then-selected.ensures ∙ empty_room_lem) c.answered-then-selected.ensures
    ∙ sym (win-listed _ _ _ _ h.1 (sym h.0 ∙ ap told_option c.in-Some.is) _ _
    ∙ win-selected _ _ (free_by _ _ _ c.if-is_some.ensures c.stopped_by.ensures) (ap (selects _) (sym d) ∙ sym c.selected.ensures ∙ c.if-selected.true))

pub asked_at-asked-requires : goal.asked_at-asked-requires
asked_at-asked-requires c =
    let h = c.requires in
    (found_at _ _ _ (first-of-all _ _ _ _ h.1 (sym h.0 ∙ ap told_option c.in-Some.is))).1

pub win_search-requires : goal.win_search-requires
win_search-requires c =
    let h = c.requires in
    stands_at _ _ _ _ _ c.asked_at-asked.ensures c.decide_among-opening.ensures.top
    (first-of-all _ _ _ _ h.1 (sym h.0 ∙ ap told_option c.in-Some.is)) h.2
    ((free_by _ _ _ c.if-is_some.ensures c.stopped_by.ensures))

pub returns : goal.returns
returns c =
    let h = c.requires in
    let d = c.decide_among-opening.ensures.decision in
    let at = sym h.0 ∙ ap told_option c.in-Some.is in
    answer_made _ _ _ d (sought-at _ _ _ _ h.1 at _ _ _ c.asked_at-asked.ensures c.win_search.ensures) c.answered-2.ensures
    ∙ sym (win-listed _ _ _ _ h.1 at _ _
    ∙ win-sought _ _ (free_by _ _ _ c.if-is_some.ensures c.stopped_by.ensures) (ap (selects _) (sym d) ∙ sym c.selected.ensures ∙ c.if-selected.false))
