-- `catalogue::trust` meets its contract: refused before the ordering, or validated after it. Assumes nothing.
use Rattle.rules.proofs.Kit.{refl, sym}
use Rattle.rules.proofs.Faults.{early_whole, exit_outcome, passed, unless_refused}
use Rattle.rules.specs.Trust.{trust_of, trust_bank}
use Rattle.catalogue.proofs.loading.trust.Goals as goal

pub returns-in_err-early_outcome : goal.returns-in_err-early_outcome
unfolding trust_of trust_bank
returns-in_err-early_outcome c =
    let told = c.in_err-early_outcome.ensures in
    (exit_outcome _ _ _ _ c.from_residual.ensures.1 told, sym (unless_refused _ _ _ refl told))

pub order-requires : goal.order-requires
order-requires c = early_whole _ (passed _ c.in_ok-early_outcome.ensures)

pub returns : goal.returns
unfolding trust_of trust_bank
returns c =
    rw (passed _ c.in_ok-early_outcome.ensures)
    (rw c.order.ensures at c.catalog_outcome.ensures, c.order.ensures)
