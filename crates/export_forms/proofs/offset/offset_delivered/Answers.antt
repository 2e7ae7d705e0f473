-- `export_forms::offset_delivered` meets its contract. Assumes nothing.
use Rattle.rules.proofs.Kit.{refl, length}
use Rattle.rules.proofs.Faults.{append_refused, passed}
use Rattle.export_checks.specs.Checks.{word_size}
use Rattle.export_checks.proofs.{Tests.lent_room, Handed.tests-refused, Handed.first_handed, Handed.answer-delivered}
use Rattle.export_forms.proofs.{Answering.place-beyond, Answering.place-within}
use Rattle.export_forms.proofs.offset.offset_delivered.Goals as goal

pub returns-in-Err : goal.returns-in-Err
returns-in-Err c =
    tests-refused _ _ _ _ _ (append_refused _ _ refl c.in-Err.ensures) c.refusal_word.ensures

pub returns-then-records-place : goal.returns-then-records-place
returns-then-records-place c =
    let a = c.args in
    first_handed _ _ _ _ (place-beyond a.bank.now a.place (length a.out.now) (passed _ c.in_default.ensures) c.if-records-place.true) c.refusal_word-then-records-place.ensures

pub hand_u64-requires : goal.hand_u64-requires
hand_u64-requires c =
    let a = c.args in
    lent_room a.bank.now word_size (length a.out.now) (passed _ c.in_default.ensures)

pub returns : goal.returns
returns c =
    let a = c.args in
    let found = place-within a.bank.now a.place (length a.out.now) (passed _ c.in_default.ensures) c.if-records-place.false in
    answer-delivered _ _ _ _ found refl c.hand_u64.ensures
