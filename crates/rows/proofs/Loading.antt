-- Rows beyond document 01's on validation, trust, the next eligible entry and the batch. Assumes nothing.
use Rattle.rules.proofs.Kit.{ℕ, refl, List, [], ◌∷◌, ◌++◌, map, Option, none, some, pos, replicate, take}
use Rattle.rules.specs.{Records.policy_of, Records.input_of, Refused.Fault, Refused.no_fault, Refused.fault, Refused.input_fault, Refused.policy_fault}
use Rattle.rules.specs.{Refused.model_fault, Numbers.Decision, Explain.next_eligible_of, Batch.batch_of, Batch.batch_row, Batch.batch_checked_of}
use Rattle.rules.specs.{Batch.batch_checked_row, Validate.validate_of, Trust.trust_of, Trust.trust_bank}
use Rattle.rules.proofs.{Opened.rules, Rows.Row, Rows.says, Example.model_one, Example.model_two, Example.bank, Example.policy, Example.request}
use Rattle.rules.proofs.{Example.with, Example.named, Example.uneven, Example.valueless, Example.decision, Example.choice, Example.rejected}

-- the two bytes of 9,984 and so much more: 16 makes 10,000
abbrev over : ℕ → List ℕ
over n = n ∷ 39 ∷ []

-- a record with another provider, and switched off
abbrev from : ℕ → List ℕ → List ℕ
from provider s = with 4 (provider ∷ []) s

abbrev off : List ℕ → List ℕ
off s = with 10 (0 ∷ []) s

abbrev validated : List ℕ → List ℕ → Option Fault
validated p b = validate_of (policy_of p) b

-- trust: the refusal, and the bank at exit
abbrev trusted : List ℕ → List ℕ → Option Fault × List ℕ
trusted p b = (trust_of (policy_of p) b, trust_bank b)

-- ---- validation

validation_rows : List Row
unfolding rules
validation_rows =
    says "the example is valid" (validated policy bank) no_fault refl
    ∷ says "1 before 10" (validated (with 16 (over 17) policy) (0 ∷ [])) (some (fault 1)) refl
    ∷ says "hard risk before confidence" (validated (with 16 (over 17 ++ over 18 ++ (81 ∷ 195 ∷ [])) policy) bank) (some (policy_fault 4 10001)) refl
    ∷ says "confidence before multiplier" (validated (with 18 (over 18 ++ (81 ∷ 195 ∷ [])) policy) bank) (some (policy_fault 5 10002)) refl
    ∷ says "a multiplier of 50,001: 10" (validated (with 20 (81 ∷ 195 ∷ []) policy) bank) (some (policy_fault 6 50001)) refl
    ∷ says "each limit at its highest" (validated (with 16 (over 16 ++ over 16 ++ (80 ∷ 195 ∷ [])) policy) bank) no_fault refl
    ∷ says "10 before 11" (validated (with 16 (over 17) policy) []) (some (policy_fault 4 10001)) refl
    ∷ says "an empty catalogue: 11" (validated policy []) (some (fault 11)) refl
    ∷ says "14 of the first record before 13 of the second" (validated policy (with 6 (over 17) model_one ++ from 64 model_two))
    (some (model_fault 14 7 1 10001)) refl
    ∷ says "14 of the first record before a repeated id" (validated policy (with 8 (over 17) model_two ++ model_one ++ model_one))
    (some (model_fault 14 8 2 10001)) refl
    ∷ says "12 before 13 of one record" (validated policy (model_two ++ model_one ++ from 64 model_two)) (some (model_fault 12 0 2 0)) refl
    ∷ says "ids 1, 2, 2: 12" (validated policy (model_one ++ model_two ++ model_two)) (some (model_fault 12 0 2 0)) refl
    ∷ says "13 before 14 of one record" (validated policy (with 4 (64 ∷ 0 ∷ 17 ∷ 39 ∷ 18 ∷ 39 ∷ []) model_one)) (some (model_fault 13 0 1 64)) refl
    ∷ says "quality before ceiling" (validated policy (with 6 (over 17 ++ over 18) model_one)) (some (model_fault 14 7 1 10001)) refl
    ∷ says "a ceiling above 10,000: 14" (validated policy (with 6 (over 16 ++ over 18) model_one)) (some (model_fault 14 8 1 10002)) refl
    ∷ says "provider 63" (validated policy (with 4 (63 ∷ 0 ∷ []) model_one)) no_fault refl
    ∷ says "13 before 15" (validated policy (off model_one ++ from 64 (off model_two))) (some (model_fault 13 0 2 64)) refl
    ∷ says "all off: 15" (validated policy (off model_one ++ off model_two)) (some (fault 15)) refl
    ∷ says "a later record with enabled 2 is on, and id 0 is an id" (validated policy (off model_one ++ named 0 (with 10 (2 ∷ []) model_two))) no_fault refl
    ∷ []

-- ---- trust

trust_rows : List Row
unfolding rules
trust_rows =
    says "two records put in order" (trusted policy (model_two ++ model_one)) (no_fault, bank) refl
    ∷ says "two records in order" (trusted policy bank) (no_fault, bank) refl
    ∷ says "16 over the whole bank before 17, and no record is moved"
    (trusted policy (named 5 (with 10 (2 ∷ []) model_one) ++ named 0 model_two))
    (some (fault 16), named 5 (with 10 (2 ∷ []) model_one) ++ named 0 model_two)
    refl
    ∷ says "17 of the first record in the old order, and no record is moved"
    (trusted policy (with 10 (3 ∷ []) model_two ++ with 10 (2 ∷ []) model_one))
    (some (model_fault 17 0 2 3), with 10 (3 ∷ []) model_two ++ with 10 (2 ∷ []) model_one)
    refl
    ∷ says "one record with enabled 2: 17" (trusted policy (with 10 (2 ∷ []) model_one)) (some (model_fault 17 0 1 2), with 10 (2 ∷ []) model_one) refl
    ∷ says "one byte: 1" (trusted policy (0 ∷ [])) (some (fault 1), 0 ∷ []) refl
    ∷ says "1 before 16" (trusted policy (named 0 model_one ++ (0 ∷ []))) (some (fault 1), named 0 model_one ++ (0 ∷ [])) refl
    ∷ says "10, after the ordering" (trusted (with 16 (over 17) policy) (model_two ++ model_one)) (some (policy_fault 4 10001), bank) refl
    ∷ says "11" (trusted policy []) (some (fault 11), []) refl
    ∷ says "12 in the ordered bank, equal ids in their old order"
    (trusted policy (model_two ++ model_one ++ from 3 model_two ++ from 4 model_one))
    (some (model_fault 12 0 1 0), model_one ++ from 4 model_one ++ model_two ++ from 3 model_two)
    refl
    ∷ says "15, after the ordering" (trusted policy (off model_two ++ off model_one)) (some (fault 15), off model_one ++ off model_two) refl
    ∷ says "ids are numbers, not bytes: 256 comes after 2"
    (trusted policy (with 0 (0 ∷ 1 ∷ []) model_one ++ model_two))
    (no_fault, model_two ++ with 0 (0 ∷ 1 ∷ []) model_one) refl
    ∷ []

-- ---- the next eligible entry

-- an entry with a verdict, its other bytes all 4
abbrev told : ℕ → List ℕ
told verdict = replicate 6 4 ++ (verdict ∷ []) ++ replicate 65 4

abbrev entries : List ℕ
entries = told 4 ++ told 3 ++ told 4 ++ take 71 (told 4)

next_rows : List Row
unfolding rules
next_rows =
    says "from each place on; a part of an entry is none" (map (next_eligible_of entries) (0 ∷ 1 ∷ 2 ∷ 3 ∷ 4 ∷ []))
    (some 0 ∷ some 2 ∷ some 2 ∷ none ∷ none ∷ [])
    refl
    ∷ says "of no entries" (next_eligible_of [] 0) none refl
    ∷ []

-- ---- the batch

abbrev risky : List ℕ
risky = with 36 (over 17) request

abbrev poor : List ℕ
poor = with 40 (over 19) request

abbrev old : Decision
old = decision 1 2 3 4 5 6 (pos 7) 8 (pos 9) 10 11 12 13

-- a batch, plain or checked: the refusal, and the row at exit, which has so much room
abbrev plain : List ℕ → List (List ℕ) → ℕ → Option Fault × List Decision
plain b qs room = (batch_of b (map input_of qs) room, batch_row (policy_of policy) b (map input_of qs) (replicate room old))

abbrev checked : List ℕ → List (List ℕ) → ℕ → Option Fault × List Decision
checked b qs room = (batch_checked_of b (map input_of qs) room, batch_checked_row (policy_of policy) b (map input_of qs) (replicate room old))

batch_rows : List Row
unfolding rules
batch_rows =
    says "two requests, and a row of three" (plain bank (request ∷ valueless ∷ []) 3) (no_fault, choice ∷ rejected 109 2 ∷ old ∷ []) refl
    ∷ says "no request" (plain bank [] 1) (no_fault, old ∷ []) refl
    ∷ says "the plain batch takes what the checked one refuses" (plain bank (poor ∷ []) 1) (no_fault, rejected 103 2 ∷ []) refl
    ∷ says "1 before 4" (plain uneven (request ∷ []) 0) (some (fault 1), []) refl
    ∷ says "a row of one for two requests: 4" (plain bank (request ∷ valueless ∷ []) 1) (some (fault 4), old ∷ []) refl
    ∷ says "4 before 3" (checked bank (request ∷ risky ∷ []) 1) (some (fault 4), old ∷ []) refl
    ∷ says "1 before 3" (checked uneven (risky ∷ []) 1) (some (fault 1), old ∷ []) refl
    ∷ says "3 of the first bad request, and no decision is written" (checked bank (request ∷ poor ∷ risky ∷ []) 3)
    (some (input_fault 3 10003 1), old ∷ old ∷ old ∷ [])
    refl
    ∷ says "3 of the first bad field" (checked bank (with 36 (over 17 ++ over 18) request ∷ []) 1) (some (input_fault 1 10001 0), old ∷ []) refl
    ∷ says "one request, checked, and a row of two" (checked bank (request ∷ []) 2) (no_fault, choice ∷ old ∷ []) refl
    ∷ []
