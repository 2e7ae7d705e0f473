-- `stored_layout::due_field` meets its contract. Assumes nothing.
use Rattle.rules.proofs.Kit.{sym, ◌∙◌}
use Rattle.stored_layout.proofs.{Due.due-left-out, Due.due-there}
use Rattle.stored_layout.proofs.due_field.Goals as goal

pub returns-then-is_left_out : goal.returns-then-is_left_out
returns-then-is_left_out c = due-left-out _ _ (sym c.is_left_out.ensures ∙ c.if-is_left_out.true)

pub returns : goal.returns
returns c = c.front_field.ensures ∙ due-there _ _ (sym c.is_left_out.ensures ∙ c.if-is_left_out.false)
