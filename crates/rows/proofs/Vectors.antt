-- Rows beyond document 01's, for what those leave open: every field of every layout, each gate and what it measured, the order of the
-- counts and of the reasons, and the refusals. Assumes nothing.
use Rattle.rules.proofs.Kit.{ℕ, zero, suc, ◌+◌, ◌*◌, refl, List, [], ◌∷◌, ◌++◌, map, none, some, ℤ, pos, replicate}
use Rattle.rules.specs.{Records.model_of, Records.model_bytes, Records.input_of, Records.input_bytes, Records.policy_of, Records.policy_in_bytes}
use Rattle.rules.specs.{Refused.fault}
use Rattle.rules.specs.{Refused.no_fault, Refused.input_fault, Refused.first_fault, Refused.length_faults, Refused.Answer, Refused.refused}
use Rattle.rules.specs.{Refused.answered}
use Rattle.rules.specs.{Numbers.two_numbers, Verdict.verdict_of}
use Rattle.rules.specs.{Count.dominant_of, Listing.find_of, Listing.reading_of, Listing.record_of, Listing.record_start, Decide.request_check}
use Rattle.rules.specs.{Decide.prescribe_of, Decide.prescribe_checked_of, Decide.prescribe_traced_checked_of, Decide.utility_for_model_of}
use Rattle.rules.specs.declared.records.Rounding.TheVariants.{Apart, Once}
use Rattle.rules.proofs.{Opened.rules, Rows.Row, Rows.says, Rows.decided, Rows.explained, Example.bank, Example.model_one, Example.model_two}
use Rattle.rules.proofs.{Example.policy, Example.request, Example.with, Example.uneven, Example.at_hard_limit, Example.unsure, Example.decision}
use Rattle.rules.proofs.{Example.rejected, Example.counts, Example.no_counts, Example.counted}
use Rattle.rows.proofs.{Literals.model_bytes47, Literals.model_said}
use Rattle.rows.proofs.{Literals.request_bytes70, Literals.request_said, Literals.policy_bytes30, Literals.policy_bytes35, Literals.policy_said}
use Rattle.rows.proofs.{Literals.four_models}
use Rattle.rows.proofs.{Literals.four_request, Literals.four_policy, Literals.four_explained, Literals.passes, Literals.gate_request, Literals.gate_policy}

-- ---- bytes: each way, an explanation of each verdict, and one refused

byte_rows : List Row
unfolding rules
byte_rows =
    says "a model's bytes, read" (model_of model_bytes47) model_said refl
    ∷ says "a model's bytes, written" (model_bytes model_said) model_bytes47 refl
    ∷ says "a request's bytes, read" (input_of request_bytes70) request_said refl
    ∷ says "a request's bytes, written" (input_bytes request_said) request_bytes70 refl
    ∷ says "a policy's 30 bytes, read" (policy_of policy_bytes30) (policy_said Apart 0) refl
    ∷ says "and written: 0 after them for apart, and four for no allowance" (policy_in_bytes (policy_said Apart 0)) (policy_bytes30 ++ replicate 5 0) refl
    ∷ says "a policy's 35 bytes, read" (policy_of policy_bytes35) (policy_said Once 3941198055) refl
    ∷ says "and written" (policy_in_bytes (policy_said Once 3941198055)) policy_bytes35 refl
    ∷ says "an explanation of each verdict" (explained four_models four_policy four_request (replicate 288 255))
    (answered (decision 72623859790382856 2 2 1145258561 3 5261728424987371 (pos 1234605616686861287) 0 (pos 0) 4 1 11 12), four_explained)
    refl
    ∷ says "a list one byte short: 4, and it is left alone" (explained bank policy request (replicate 143 255)) (refused (fault 4), replicate 143 255) refl
    ∷ says "1 before 4" (explained uneven policy request []) (refused (fault 1), []) refl
    ∷ says "a request stopped by 100 needs no room" (explained bank policy at_hard_limit []) (answered (rejected 100 0), []) refl
    ∷ says "a request stopped by 101 needs no room" (explained bank policy unsure []) (answered (rejected 101 0), []) refl
    ∷ []

-- ---- gates, what they measure, and the nine counts

abbrev off : List ℕ
off = with 10 (0 ∷ []) passes

abbrev poor : List ℕ
poor = with 6 (135 ∷ 19 ∷ []) passes

abbrev slow : List ℕ
slow = with 11 (100 ∷ []) passes

abbrev unable : List ℕ
unable = with 15 (5 ∷ []) passes

abbrev unknown : List ℕ
unknown = with 4 (64 ∷ []) passes

abbrev barred : List ℕ
barred = with 4 (2 ∷ []) passes

abbrev elsewhere : List ℕ
elsewhere = with 23 (3 ∷ []) passes

abbrev risky : List ℕ
risky = with 8 (231 ∷ 3 ∷ []) passes

abbrev over : List ℕ
over = with 31 (192 ∷ 198 ∷ 45 ∷ []) passes

-- quality at the minimum, latency at the limit: eligible but for its utility
abbrev worthless : List ℕ
worthless = with 6 (136 ∷ 19 ∷ 64 ∷ 31 ∷ 1 ∷ 99 ∷ []) passes

abbrev times : ℕ → List ℕ → List ℕ
times zero record' = []
times (suc n) record' = record' ++ times n record'

-- nine different counts
abbrev rejects : List ℕ
rejects =
    times 1 off ++ times 2 poor ++ times 3 risky ++ times 4 slow ++ times 5 unable ++ times 2 unknown ++ times 4 barred
    ++ times 7 elsewhere
    ++ times 8 over
    ++ times 9 worthless

gate_rows : List Row
unfolding rules
gate_rows =
    says "each gate, what it measured, and its limit"
    (map (λ s. verdict_of (policy_of gate_policy) (input_of gate_request) (model_of s)) (off ∷ poor ∷ slow ∷ unable ∷ unknown ∷ barred ∷ elsewhere ∷ risky ∷ []))
    (two_numbers 1 1 0 1
    ∷ two_numbers 1 2 4999 5000
    ∷ two_numbers 1 3 100 99
    ∷ two_numbers 1 4 5 6
    ∷ two_numbers 1 5 64 63
    ∷ two_numbers 1 6 2 11
    ∷ two_numbers 1 7 3 4
    ∷ two_numbers 1 8 1000 999
    ∷ [])
    refl
    ∷ says "nine counts" (decided rejects gate_policy gate_request)
    (counted (decision 1 3 109 0 65535 0 (pos 0) 0 (pos 0) 45 0 7 3) (counts 1 2 3 4 5 6 7 8 9))
    refl
    ∷ says "nine counts beside an eligible model" (decided (rejects ++ passes) gate_policy gate_request)
    (counted (decision 1 1 1 1 45 100 (pos 4900) 0 (pos 0) 46 1 7 3) (counts 1 2 3 4 5 6 7 8 9))
    refl
    ∷ says "all ones: provider 2 passes; a region without a bit fails"
    (map (λ s. (verdict_of (policy_of gate_policy) (input_of (with 54 (replicate 16 255) gate_request)) (model_of s)).gate)
    (barred ∷ with 23 (0 ∷ []) passes ∷ []))
    (0 ∷ 7 ∷ [])
    refl
    ∷ says "provider 63 passes with a mask of 2 ^ 63"
    (verdict_of (policy_of gate_policy) (input_of (with 54 (replicate 7 0 ++ 128 ∷ []) gate_request)) (model_of (with 4 (63 ∷ []) passes))).gate
    0
    refl
    ∷ says "enabled 2 is on" (verdict_of (policy_of gate_policy) (input_of gate_request) (model_of (with 10 (2 ∷ []) passes))).kind 4 refl
    ∷ []

-- ---- ties of the counts: the last of the largest, in document 01's order

reason_rows : List Row
unfolding rules
reason_rows =
    says "no count: 102" (dominant_of no_counts) 102 refl
    ∷ says "all nine alike: 102" (dominant_of (counts 1 1 1 1 1 1 1 1 1)) 102 refl
    ∷ says "the first eight alike: 109" (dominant_of (counts 0 1 1 1 1 1 1 1 1)) 109 refl
    ∷ says "the first seven alike: 108" (dominant_of (counts 0 1 1 1 1 1 1 1 0)) 108 refl
    ∷ says "the first six alike: 104" (dominant_of (counts 0 1 1 1 1 1 1 0 0)) 104 refl
    ∷ says "the first five alike: 110" (dominant_of (counts 0 1 1 0 1 1 1 0 0)) 110 refl
    ∷ says "the first four alike: 103" (dominant_of (counts 0 1 0 0 1 1 1 0 0)) 103 refl
    ∷ says "the first three alike: 106" (dominant_of (counts 0 0 0 0 1 1 1 0 0)) 106 refl
    ∷ says "the first two alike: 107" (dominant_of (counts 0 0 0 0 1 0 1 0 0)) 107 refl
    ∷ says "the first alone: 105" (dominant_of (counts 0 0 0 0 1 0 0 0 0)) 105 refl
    ∷ says "the first above all others: 105" (dominant_of (counts 1 1 1 1 2 1 1 1 1)) 105 refl
    ∷ []

-- ---- refusals, and the calls on one model or record

-- the request with a minimum quality of 10,003
abbrev too_good : List ℕ
too_good = with 40 (19 ∷ 39 ∷ []) request

-- and with confidence 2,000, at which model 1 is priced, and not eligible
abbrev doubtful : List ℕ
doubtful = with 38 (208 ∷ 7 ∷ []) request

abbrev utility_for : List ℕ → ℕ → List ℕ → Answer ℤ
utility_for q id b = utility_for_model_of (policy_of policy) (input_of q) id b

refusal_rows : List Row
unfolding rules
refusal_rows =
    says "65,535 records" (length_faults (47 * 65535)) [] refl
    ∷ says "65,536 records: 2" (length_faults (47 * 65536)) (fault 2 ∷ []) refl
    ∷ says "1 before 2" (first_fault (length_faults (47 * 65536 + 1))) (some (fault 1)) refl
    ∷ says "a bank of one byte: 1" (prescribe_of (policy_of policy) (input_of request) (0 ∷ [])) (refused (fault 1)) refl
    ∷ says "10,000 is not refused" (request_check (input_of request)) no_fault refl
    ∷ says "the risk comes before the confidence" (request_check (input_of (with 36 (17 ∷ 39 ∷ 18 ∷ 39 ∷ 19 ∷ 39 ∷ []) request)))
    (some (input_fault 1 10001 0)) refl
    ∷ says "the confidence comes before the quality" (request_check (input_of (with 38 (18 ∷ 39 ∷ 19 ∷ 39 ∷ []) request))) (some (input_fault 2 10002 0)) refl
    ∷ says "a minimum quality above 10,000: 3" (request_check (input_of too_good)) (some (input_fault 3 10003 0)) refl
    ∷ says "3 of a checked call" (prescribe_checked_of (policy_of policy) (input_of too_good) bank) (refused (input_fault 3 10003 0)) refl
    ∷ says "1 before 3, checked" (prescribe_checked_of (policy_of policy) (input_of too_good) uneven) (refused (fault 1)) refl
    ∷ says "1 before 3, traced and checked" (prescribe_traced_checked_of (policy_of policy) (input_of too_good) uneven) (refused (fault 1)) refl
    ∷ says "an id is found at its place" (find_of 2 bank) (answered (some 1)) refl
    ∷ says "the first listed record with an id is found" (find_of 1 (model_two ++ model_one ++ model_one)) (answered (some 1)) refl
    ∷ says "an id that isn't listed is found nowhere" (find_of 3 bank) (answered none) refl
    ∷ says "the utility of model 1" (utility_for request 1 bank) (answered (pos 5200)) refl
    ∷ says "7: not listed" (utility_for request 3 bank) (refused (fault 7)) refl
    ∷ says "7: stopped" (utility_for at_hard_limit 1 bank) (refused (fault 7)) refl
    ∷ says "7: priced, but not eligible" (utility_for doubtful 1 bank) (refused (fault 7)) refl
    ∷ says "7: eligible, but the request is stopped"
    (utility_for_model_of (policy_of (with 20 (0 ∷ 0 ∷ []) policy)) (input_of at_hard_limit) 1 (with 8 (40 ∷ 35 ∷ []) model_one))
    (refused (fault 7))
    refl
    ∷ says "7: the first listed record counts, though a later one is eligible"
    (utility_for request 1 (with 10 (0 ∷ []) model_one ++ model_one))
    (refused (fault 7))
    refl
    ∷ says "1 before each 7" (utility_for request 3 uneven ∷ utility_for at_hard_limit 1 uneven ∷ utility_for doubtful 1 uneven ∷ [])
    (replicate 3 (refused (fault 1)))
    refl
    ∷ says "a record is there" (reading_of bank 1) no_fault refl
    ∷ says "its bytes" (record_of bank 1) model_two refl
    ∷ says "8: beyond the bank" (reading_of bank 2) (some (fault 8)) refl
    ∷ says "beyond the bank no bytes" (record_of bank 2) [] refl
    ∷ says "1 before 8" (reading_of uneven 2) (some (fault 1)) refl
    ∷ says "of an uneven bank no bytes" (record_of uneven 0) [] refl
    ∷ says "a record begins at its own place, though one before it is equal" (record_start (model_one ++ model_one) 1) 47 refl
    ∷ says "no bytes begin where the bank does" (record_start bank 2 ∷ record_start uneven 1 ∷ []) (0 ∷ 0 ∷ []) refl
    ∷ []
