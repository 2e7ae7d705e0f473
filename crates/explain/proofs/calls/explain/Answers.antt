-- `explain::explain` meets its contract. Assumes nothing.
use Rattle.rules.proofs.Kit.{arith, refl, ap, ◌∙◌}
use Rattle.rules.specs.{Listing.Reading, Listing.every_record, Explain.explain_over, Explain.explain_list_over, Explain.explain_of, Explain.explain_list}
use Rattle.rules.proofs.Faults.{bank_room, passed}
use Rattle.live_slots.proofs.Among.{all_read, all_among}
use Rattle.explain.proofs.{Readings.reading_refused, Readings.reading_passed}
use Rattle.explain.proofs.calls.explain.Goals as goal

pub returns-in_err-bank_outcome : goal.returns-in_err-bank_outcome
unfolding explain_of explain_list
returns-in_err-bank_outcome c =
    let w = reading_refused _ _ c.args.policy c.args.input (every_record c.args.bank.now) _ c.from_residual.ensures.1 c.in_err-bank_outcome.ensures in
    record { answer = w.0; bytes = w.1 }

pub overflow_cast-every : goal.overflow_cast-every
overflow_cast-every c = omega (arith, bank_room _ refl c.in_ok-bank_outcome.ensures)

pub explain_among-requires : goal.explain_among-requires
explain_among-requires c = all_among _ (bank_room _ refl c.in_ok-bank_outcome.ensures)

pub returns : goal.returns
unfolding explain_of explain_list
returns c =
    let a = c.args in
    let list = a.list.now in
    let read = reading_passed (every_record a.bank.now) _ (passed _ c.in_ok-bank_outcome.ensures) (all_read a.bank.now) in
    record {
      answer = c.explain_among.ensures.answer ∙ ap (λ (b : Reading). explain_over a.policy a.input b list) read;
      bytes = c.explain_among.ensures.bytes ∙ ap (λ (b : Reading). explain_list_over a.policy a.input b list) read;
    }
