-- Rows on the exported batches: which refusal comes first where two would do, the place that 3 tells, and what a batch leaves. Assumes nothing.
use Rattle.rules.proofs.Kit.{ℕ, ◌+◌, ◌*◌, ◌^◌, refl, List, [], ◌∷◌, ◌++◌, map, Option, some, take, replicate}
use Rattle.rules.specs.{Refused.Fault, Refused.fault, Refused.input_fault, Refused.first_fault, Listing.every_record}
use Rattle.rules.proofs.{Opened.rules, Rows.Row, Rows.says, Example.bank, Example.policy, Example.request, Example.at_hard_limit, Example.uneven, Example.with}
use Rattle.rules.proofs.Example.{choice, rejected}
use Rattle.export_decision_bytes.specs.Layout.{uncounted_bytes}
use Rattle.export_batch.specs.Batches.{LentRow, lent_row, requests_from, row_size_faults, batch_call_faults, batch_checked_call_faults, row_bytes, batch_call}
use Rattle.export_batch.specs.Batches.{batch_checked_call}

-- a policy with a 31st byte that says no rounding, and a request with a confidence of 10,001
abbrev neither : List ℕ
neither = policy ++ (2 ∷ [])

abbrev sure : List ℕ
sure = with 38 (17 ∷ 39 ∷ []) request

-- ---- refusals

-- what refuses a batch, plain and checked, with so much room
abbrev called : LentRow → ℕ → List (Option Fault)
called l room =
    map first_fault (batch_call_faults l (every_record l.bank) room ∷ batch_checked_call_faults l (every_record l.bank) room ∷ [])

abbrev twice : ℕ → List (Option Fault)
twice n = some (fault n) ∷ some (fault n) ∷ []

refusal_rows : List Row
unfolding rules requests_from row_size_faults batch_call_faults batch_checked_call_faults
refusal_rows =
    says "69 bytes for one request: 22, before 23" (called (lent_row neither (take 69 request) 1 uneven) 0) (twice 22) refl
    ∷ says "one request, counted as none: 22" (called (lent_row neither request 0 uneven) 0) (twice 22) refl
    ∷ says "none, counted as one: 22" (called (lent_row neither [] 1 uneven) 0) (twice 22) refl
    ∷ says "none, counted as 2^32: 22" (called (lent_row neither [] (2 ^ 32) uneven) 0) (twice 22) refl
    ∷ says "31 bytes of which the last is 2: 23, before 1" (called (lent_row neither request 1 uneven) 0) (twice 23) refl
    ∷ says "1, before 4" (called (lent_row policy request 1 uneven) 0) (twice 1) refl
    ∷ says "room for one decision and 64 bytes of the next: 4, before 3" (called (lent_row policy (request ++ sure) 2 bank) 129) (twice 4) refl
    ∷ says "the second request is bad: 3 of the checked batch alone, with its place" (called (lent_row policy (request ++ sure) 2 bank) 130)
    (first_fault [] ∷ some (input_fault 2 10001 1) ∷ []) refl
    ∷ []

-- ---- what is left

-- a buffer for two decisions, with one byte to spare
abbrev room : List ℕ
room = replicate 131 9

-- the example's request, then one that is stopped by its risk
abbrev pair : List ℕ
pair = request ++ at_hard_limit

abbrev pair_left : ℕ × List ℕ
pair_left = (0, uncounted_bytes choice ++ uncounted_bytes (rejected 100 0) ++ (9 ∷ []))

answer_rows : List Row
unfolding rules requests_from row_size_faults batch_call_faults batch_checked_call_faults row_bytes uncounted_bytes
answer_rows =
    says "two requests: two decisions in their order, the last byte as it was" (batch_call (lent_row policy pair 2 bank) room) pair_left refl
    ∷ says "the same, checked" (batch_checked_call (lent_row policy pair 2 bank) room) pair_left refl
    ∷ says "no request: an answer, and nothing written" (batch_call (lent_row policy [] 0 bank) room) (0, room) refl
    ∷ says "no request and no room: an answer" (batch_checked_call (lent_row policy [] 0 bank) []) (0, []) refl
    ∷ says "a bad second request: its word, and the first is not decided" (batch_checked_call (lent_row policy (request ++ sure) 2 bank) room)
    (3 + 2 ^ 8 * 2 + 2 ^ 16 * 10001 + 2 ^ 32 * 1, room) refl
    ∷ []
