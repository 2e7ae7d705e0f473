-- `live_compact::compact` meets its contract. Assumes nothing.
use Rattle.rules.proofs.Kit.{refl}
use Rattle.rules.specs.{Slots.live_faults, Edits.spent_faults}
use Rattle.rules.proofs.{Faults.append_refused, Faults.passed, Slots.live-whole}
use Rattle.live_slots.proofs.Told.{number_refused, number_passed}
use Rattle.live_compact.proofs.{Gaps.compact-refused, Gaps.compact-done}
use Rattle.live_compact.proofs.closing.compact.Goals as goal

pub returns-in_err-live : goal.returns-in_err-live
returns-in_err-live c =
    let told = append_refused (live_faults c.args.bank.now) (spent_faults c.args.policy) refl (number_refused _ _ _ c.in_err-live.ensures) in
    let kept = compact-refused _ _ _ _ c.from_residual.ensures.1 told in
    record { answer = kept.0; exit = kept.1 }

pub returns-in_err-spent_outcome : goal.returns-in_err-spent_outcome
returns-in_err-spent_outcome c =
    let slots = (number_passed _ _ _ c.in_ok-live.ensures).0 in
    let kept = compact-refused _ _ _ _ c.from_residual-in_err-spent_outcome.ensures.1 (rw slots c.in_err-spent_outcome.ensures) in
    record { answer = kept.0; exit = kept.1 }

pub close-requires : goal.close-requires
close-requires c = live-whole _ (number_passed _ _ _ c.in_ok-live.ensures).0

pub raised-requires : goal.raised-requires
raised-requires c = passed _ c.in_ok-spent_outcome.ensures

pub returns : goal.returns
returns c =
    let done = compact-done _ _ c.in_ok-live.ensures c.in_ok-spent_outcome.ensures c.raised.ensures c.close.ensures in
    record { answer = done.0; exit = done.1 }
