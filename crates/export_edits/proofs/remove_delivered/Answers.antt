-- `export_edits::remove_delivered` meets its contract. Assumes nothing.
use Rattle.rules.proofs.Kit.{◌∙◌}
use Rattle.rules.proofs.Faults.{passed}
use Rattle.export_edits.proofs.Leaving.{left_refused, left_edited, stock_policy, stock_long, stock_room}
use Rattle.export_edits.proofs.remove_delivered.Goals as goal

pub returns-in-Err : goal.returns-in-Err
returns-in-Err c = left_refused _ _ _ _ _ _ c.in-Err.ensures c.refusal_word.ensures

pub policy_of-requires : goal.policy_of-requires
policy_of-requires c = stock_policy _ _ (passed _ c.in_default.ensures)

pub edited_handed-requires : goal.edited_handed-requires
edited_handed-requires c = let none = passed _ c.in_default.ensures in (stock_long _ _ none, stock_room _ _ none)

pub returns : goal.returns
returns c =
    left_edited _ _ _ _ _ (passed _ c.in_default.ensures)
    (c.remove-edited.ensures.answer ∙ rw c.policy_of.ensures)
    c.edited_handed.ensures.answer
    c.edited_handed.ensures.epoch
    (c.remove-edited.ensures.exit ∙ rw c.policy_of.ensures)
