-- `stored_layout::is_left_out` meets its contract. Assumes nothing.
use Rattle.rules.proofs.Kit.{sym, ◌∙◌, eqb-true, eqb-false}
use Rattle.stored_layout.proofs.{Passing.either-optional, Due.left-out-none, Due.left-out-byte}
use Rattle.stored_layout.proofs.is_left_out.Goals as goal

pub returns-then-is_empty : goal.returns-then-is_empty
returns-then-is_empty c =
    c.if-is_empty.true
    ∙ left-out-none c.args.tag _ (either-optional _ c.if-tag-eq-ALLOWANCE_TAG.either) (eqb-true _ _ (sym c.if-is_empty.ensures))

pub returns-else-is_empty : goal.returns-else-is_empty
returns-else-is_empty c =
    left-out-byte c.args.tag _ (either-optional _ c.if-tag-eq-ALLOWANCE_TAG.either) (eqb-false _ _ (sym c.if-is_empty.ensures))
