-- `export_edits::edited_handed` meets its contract. Assumes nothing.
use Rattle.rules.proofs.Kit.{refl, ap}
use Rattle.rules.specs.Numbers.{told_edited}
use Rattle.export_checks.proofs.Handed.{delivered_so, answer-refused, answer-delivered}
use Rattle.export_edits.proofs.edited_handed.Goals as goal

pub returns-in-Err-clause-answer : goal.returns-in-Err-clause-answer
returns-in-Err-clause-answer c = answer-refused _ _ _ _ refl (ap told_edited c.in-Err.is) c.refusal_word.ensures

pub returns-in-Ok-clause-answer : goal.returns-in-Ok-clause-answer
returns-in-Ok-clause-answer c = answer-delivered _ _ _ _ refl (ap told_edited c.in-Ok.is) (delivered_so _ _ c.put16.ensures)
