-- `bank::record_at` meets its contract: an answer of `reading` puts the record within the bank, a refusal leaves the empty part at its start.
-- Assumes nothing.
use Rattle.rules.proofs.Kit.{ℕ, ◌+◌, ◌*◌, ◌≤◌, ap, ◌∙◌, arith, length}
use Rattle.bank.proofs.{Refusals.answer-within, Refusals.answer-part, Refusals.answer-start, Refusals.refusal-part}
use Rattle.bank.proofs.record_at.Goals as goal
use Rattle.bank.proofs.record_at.Goals.{In-Ok}

-- the record lies within the bank
fits : (c : In-Ok) → 47 * c.args.place + 47 ≤ length c.args.bank.now
fits c = answer-within _ _ c.reading.result c.reading.ensures c.in-Ok.is

-- so far beyond a pointer
abbrev beyond : ℕ × ℕ → ℕ → ℕ × ℕ
beyond p n = (p.0, n + p.1)

pub overflow_mul-place : goal.overflow_mul-place
overflow_mul-place c = omega (arith, fits c)

pub part-requires : goal.part-requires
part-requires c = fits c

pub returns-in-Ok : goal.returns-in-Ok
returns-in-Ok c =
    let read = c.reading in
    let told = c.in-Ok.is in
    let at = c.part.ensures in
    record {
      bytes = at.bytes ∙ answer-part _ _ read.result read.ensures told;
      start = at.start ∙ ap (beyond _) (answer-start _ _ read.result read.ensures told);
    }

pub returns-in-Err : goal.returns-in-Err
returns-in-Err c =
    let empty = refusal-part _ _ _ c.reading.ensures _ c.in-Err.is in
    record { bytes = c.part-in-Err.ensures.bytes ∙ empty.0; start = c.part-in-Err.ensures.start ∙ ap (beyond _) empty.1 }
