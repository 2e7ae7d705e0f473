-- `batch::over::first_bad` meets its contract: the first request that is refused is told, with its place. Assumes nothing.
use Rattle.rules.proofs.Kit.{sym, ap, ◌∙◌}
use Rattle.rules.specs.Refused.{first_fault, told_outcome}
use Rattle.rules.proofs.Faults.{exit_outcome, passed}
use Rattle.batch.proofs.{Testing.bad-none, Testing.bad-here, Testing.bad-next}
use Rattle.batch.proofs.over.first_bad.Goals as goal

pub returns-in_err-input_outcome : goal.returns-in_err-input_outcome
returns-in_err-input_outcome c =
    exit_outcome _ _ _ _ c.from_residual.ensures.1 c.in_err-input_outcome.ensures
    ∙ ap first_fault (sym (c.loop-place.invariant ∙ bad-here _ c.loop-place.place _ c.loop-place-test.true))

pub loop-place-preserved : goal.loop-place-preserved
loop-place-preserved c =
    c.loop-place.invariant ∙ bad-next _ c.loop-place.place _ c.loop-place-test.true (passed _ c.in_ok-input_outcome.ensures)

pub returns : goal.returns
unfolding first_fault told_outcome
returns c = rw (c.loop-place.invariant ∙ bad-none _ c.loop-place.place c.loop-place-test.false)
