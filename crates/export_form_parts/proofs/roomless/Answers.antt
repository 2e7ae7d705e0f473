-- `export_form_parts::roomless` meets its contract. Assumes nothing.
use Rattle.rules.proofs.Kit.{refl, ap, ◌∙◌}
use Rattle.rules.specs.Refused.{told_outcome}
use Rattle.rules.proofs.Faults.{append_refused}
use Rattle.export_checks.specs.Checks.{word_of}
use Rattle.export_form_parts.proofs.{Answering.four_left}
use Rattle.export_form_parts.proofs.roomless.Goals as goal

pub returns-in-Err : goal.returns-in-Err
unfolding told_outcome
returns-in-Err c = c.refusal_word.ensures ∙ ap word_of (append_refused _ _ refl c.in-Err.ensures)

pub returns-in-Ok : goal.returns-in-Ok
returns-in-Ok c = four_left _ c.in-Ok.ensures c.refusal_word-in-Ok.ensures
