-- `live_explain::explain` meets its contract. Assumes nothing.
use Rattle.rules.proofs.Kit.{ap, ◌∙◌}
use Rattle.rules.specs.{Listing.Reading, Explain.explain_over, Explain.explain_list_over, Slots.live_records, Live.live_explain_of, Live.live_explain_list}
use Rattle.live_slots.proofs.{Among.live-read, Among.live-among, Told.number_refused, Told.number_passed}
use Rattle.explain.proofs.Readings.{reading_refused, reading_passed}
use Rattle.live_explain.proofs.explain.Goals as goal

pub returns-in_err-live : goal.returns-in_err-live
unfolding live_explain_of live_explain_list
returns-in_err-live c =
    let a = c.args in
    let first = number_refused _ _ _ c.in_err-live.ensures in
    let told = reading_refused _ _ a.policy a.input (live_records a.bank.now) a.list.now c.from_residual.ensures.1 first in
    record { answer = told.0; bytes = told.1 }

pub explain_among-requires : goal.explain_among-requires
explain_among-requires c =
    let read = number_passed _ _ _ c.in_ok-live.ensures in
    live-among _ read.0 _ read.1

pub returns : goal.returns
unfolding live_explain_of live_explain_list
returns c =
    let a = c.args in
    let list = a.list.now in
    let read = number_passed _ _ _ c.in_ok-live.ensures in
    let its = reading_passed (live_records a.bank.now) _ read.0 (live-read a.bank.now read.0 _ read.1) in
    record {
      answer = c.explain_among.ensures.answer ∙ ap (λ (b : Reading). explain_over a.policy a.input b list) its;
      bytes = c.explain_among.ensures.bytes ∙ ap (λ (b : Reading). explain_list_over a.policy a.input b list) its;
    }
