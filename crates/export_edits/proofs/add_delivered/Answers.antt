-- `export_edits::add_delivered` meets its contract. Assumes nothing.
use Rattle.rules.proofs.Kit.{◌∙◌}
use Rattle.rules.specs.Refused.{size_faults}
use Rattle.rules.proofs.Faults.{none_after, passed}
use Rattle.export_edits.proofs.Leaving.{left_refused, left_edited, stock_policy, stock_long, stock_room}
use Rattle.export_edits.proofs.add_delivered.Goals as goal

pub returns-in-Err : goal.returns-in-Err
returns-in-Err c = left_refused _ _ _ _ _ _ c.in-Err.ensures c.refusal_word.ensures

pub policy_of-requires : goal.policy_of-requires
policy_of-requires c = stock_policy _ _ (none_after (size_faults _ _) _ (passed _ c.in_default.ensures))

pub edited_handed-requires : goal.edited_handed-requires
edited_handed-requires c = let none = none_after (size_faults _ _) _ (passed _ c.in_default.ensures) in (stock_long _ _ none, stock_room _ _ none)

pub returns : goal.returns
returns c =
    left_edited _ _ _ _ _ (passed _ c.in_default.ensures)
    (c.add-edited.ensures.answer ∙ rw c.policy_of.ensures)
    c.edited_handed.ensures.answer
    c.edited_handed.ensures.epoch
    (c.add-edited.ensures.exit ∙ rw c.policy_of.ensures)
