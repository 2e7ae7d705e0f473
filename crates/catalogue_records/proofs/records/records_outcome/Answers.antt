-- `catalogue_records::records_outcome` meets its contract. Assumes nothing.
use Rattle.rules.proofs.Kit.{arith, ap, sym, ◌∙◌}
use Rattle.rules.specs.{Refused.first_fault, Refused.told_outcome}
use Rattle.rules.proofs.Faults.{exit_outcome, passed}
use Rattle.catalogue_records.proofs.{Walks.records-next, Walks.records-end}
use Rattle.catalogue_records.proofs.records.records_outcome.Goals as goal

pub returns-in_err-record_outcome : goal.returns-in_err-record_outcome
returns-in_err-record_outcome c =
    let l = c.loop-place in
    exit_outcome _ _ _ _ c.from_residual.ensures.1 c.in_err-record_outcome.ensures
    ∙ ap first_fault (sym (l.invariant ∙ records-next _ l.place c.loop-place-test.true))

pub loop-place-preserved : goal.loop-place-preserved
loop-place-preserved c =
    let l = c.loop-place in
    l.invariant ∙ records-next _ l.place c.loop-place-test.true ∙ rw (passed _ c.in_ok-record_outcome.ensures)

pub returns : goal.returns
unfolding first_fault told_outcome
returns c = rw (c.loop-place.invariant ∙ records-end _ c.loop-place.place (omega arith))
