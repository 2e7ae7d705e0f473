-- `export_batch::batch_checked_delivered` meets its contract. Assumes nothing.
use Rattle.rules.proofs.Kit.{refl, sym, ap, ◌∙◌, arith}
use Rattle.rules.specs.Refused.{first_fault}
use Rattle.rules.proofs.Faults.{append_refused, passed}
use Rattle.export_batch.proofs.{Refusals.row_placeless, Refusals.row-refused, Refusals.row-bad, Refusals.row-passed, Refusals.no_bad}
use Rattle.export_batch.proofs.{Refusals.checked-joined, Refusals.checked-rest, Refusals.passed-count, Refusals.passed-requests}
use Rattle.export_batch.proofs.batch_checked_delivered.Goals as goal

pub returns-in-Err : goal.returns-in-Err
returns-in-Err c =
    let told = c.in-Err.ensures in
    row-refused _ _ _ _ _ (row_placeless _ _) told (append_refused _ _ refl told ∙ ap first_fault (sym (checked-joined _ _))) c.refusal_word.ensures

pub bad_word-requires : goal.bad_word-requires
bad_word-requires c =
    let none = passed _ c.in_default.ensures in
    (omega (arith, passed-requests _ _ none), passed-count _ _ none)

pub returns-in-Some : goal.returns-in-Some
returns-in-Some c = row-bad _ _ _ (checked-rest _ _ (passed _ c.in_default.ensures)) c.in-Some.ensures

pub row_delivered-requires : goal.row_delivered-requires
row_delivered-requires c = passed _ c.in_default.ensures

pub returns : goal.returns
returns c =
    row-passed _ _ _ (checked-rest _ _ (passed _ c.in_default.ensures) ∙ no_bad _ c.in_default-bad_word.ensures) c.row_delivered.ensures
