-- `counterfactual_pass::selected` meets its contract. Assumes nothing.
use Rattle.rules.proofs.Kit.{sym, ◌∙◌}
use Rattle.rules.specs.Levers.{selects}
use Rattle.counterfactual_pass.proofs.pass.selected.Goals as goal

pub returns-then-is_executable : goal.returns-then-is_executable
unfolding selects
returns-then-is_executable c = rw (sym c.is_executable.ensures ∙ c.if-is_executable.true)

pub returns-else-is_executable : goal.returns-else-is_executable
unfolding selects
returns-else-is_executable c = rw (sym c.is_executable.ensures ∙ c.if-is_executable.false) c.if-is_executable.false
