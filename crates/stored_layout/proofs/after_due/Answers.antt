-- `stored_layout::after_due` meets its contract. Assumes nothing.
use Rattle.rules.proofs.Kit.{sym, ◌∙◌}
use Rattle.stored_layout.proofs.{Due.due_passed}
use Rattle.stored_layout.proofs.after_due.Goals as goal

pub after_front-requires : goal.after_front-requires
after_front-requires c =
    (due_passed c.args.tag c.args.form.now (sym c.is_left_out.ensures ∙ c.if-is_left_out.false) c.requires).whole
