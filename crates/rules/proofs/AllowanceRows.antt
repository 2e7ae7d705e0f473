-- Rows on the latency term at its edges, on the gate beside it, and on the order in which tag 5 is refused (document 02, f). Assumes nothing.
use Rattle.rules.proofs.Kit.{ℕ, ◌-◌, ◌*◌, ◌^◌, refl, List, [], ◌∷◌, ◌++◌, map, Option, none, some}
use Rattle.rules.specs.{Bytes.bytes_of, Records.model_of, Records.input_of, Records.policy_of, Refused.Fault, Refused.fault, Refused.first_fault}
use Rattle.rules.specs.{Numbers.Verdict, Numbers.two_numbers, Utility.latency_term_of, Verdict.verdict_of, Stored.field_faults, Stored.field_bytes}
use Rattle.rules.specs.{Stored.form_faults, Stored.stored_tags}
use Rattle.rules.proofs.{Opened.rules, Rows.Row, Rows.says, Example.model_one, Example.bank, Example.policy, Example.request, Example.with}

-- a policy with an allowance, which rounds apart, and one that charges so much a millisecond; a model of so many milliseconds
abbrev pub allowing : ℕ → List ℕ → List ℕ
allowing allowance p = p ++ (0 ∷ bytes_of 4 allowance)

abbrev pub charging : ℕ → List ℕ
charging penalty = with 22 (bytes_of 8 penalty) policy

abbrev pub late : ℕ → List ℕ → List ℕ
late ms m = with 11 (bytes_of 4 ms) m

-- ---- the term

abbrev term : List ℕ → ℕ → ℕ
term p ms = latency_term_of (policy_of p) (model_of (late ms model_one))

-- 10 microunits a millisecond; latency below the allowance, at it, above it
term_rows : List Row
unfolding rules
term_rows =
    says "199, 200 and 201 ms, 200 of them free" (map (term (allowing 200 policy)) (199 ∷ 200 ∷ 201 ∷ [])) (0 ∷ 0 ∷ 10 ∷ []) refl
    ∷ says "no millisecond, 200 free" (term (allowing 200 policy) 0) 0 refl
    ∷ says "an allowance of 0 is none" (map (λ p. term p 200) (allowing 0 policy ∷ (policy ++ (0 ∷ [])) ∷ policy ∷ []))
    (2000 ∷ 2000 ∷ 2000 ∷ [])
    refl
    ∷ says "an allowance of 1" (map (term (allowing 1 policy)) (0 ∷ 1 ∷ 2 ∷ [])) (0 ∷ 0 ∷ 10 ∷ []) refl
    ∷ says "each of its four bytes" (map (λ a. term (allowing a policy) (2 ^ 25)) (1 ∷ 256 ∷ 65536 ∷ 16777216 ∷ []))
    (335544310 ∷ 335541760 ∷ 334888960 ∷ 167772160 ∷ [])
    refl
    ∷ says "the largest allowance: every latency is free" (map (term (allowing (2 ^ 32 - 1) policy)) (0 ∷ (2 ^ 32 - 2) ∷ (2 ^ 32 - 1) ∷ []))
    (0 ∷ 0 ∷ 0 ∷ [])
    refl
    ∷ says "the largest allowance but one" (term (allowing (2 ^ 32 - 2) policy) (2 ^ 32 - 1)) 10 refl
    ∷ says "the largest penalty, at the allowance and one above" (map (term (allowing 200 (charging (2 ^ 64 - 1)))) (200 ∷ 201 ∷ []))
    (0 ∷ (2 ^ 64 - 1) ∷ [])
    refl
    ∷ says "the largest penalty and the largest latency"
    (map (λ a. term (allowing a (charging (2 ^ 64 - 1))) (2 ^ 32 - 1)) (0 ∷ 1 ∷ (2 ^ 32 - 2) ∷ []))
    (((2 ^ 32 - 1) * (2 ^ 64 - 1)) ∷ ((2 ^ 32 - 2) * (2 ^ 64 - 1)) ∷ (2 ^ 64 - 1) ∷ [])
    refl
    ∷ says "no penalty" (map (λ a. term (allowing a (charging 0)) 300) (0 ∷ 200 ∷ [])) (0 ∷ 0 ∷ []) refl
    ∷ []

-- ---- the gate

-- the request with a latency limit of 99 ms, and what the example's first model, of 100 ms, is told under an allowance
abbrev pub within99 : List ℕ
within99 = with 42 (99 ∷ []) request

abbrev told_under : ℕ → Verdict
told_under allowance = verdict_of (policy_of (allowing allowance policy)) (input_of within99) (model_of model_one)

gate_rows : List Row
unfolding rules
gate_rows =
    says "100 ms, a limit of 99: the full figure is compared and told, whatever is free" (map told_under (0 ∷ 1 ∷ 200 ∷ []))
    (two_numbers 1 3 100 99 ∷ two_numbers 1 3 100 99 ∷ two_numbers 1 3 100 99 ∷ [])
    refl
    ∷ []

-- ---- tag 5

abbrev pub tag_five : ℕ → List ℕ
tag_five allowance = field_bytes 5 (bytes_of 4 allowance)

-- what the first fault is where tag 5 is due, and of fields after the example's policy and bank
abbrev refused_by : List ℕ → Option Fault
refused_by s = first_fault (field_faults 5 s)

abbrev stored_with : List ℕ → Option Fault
stored_with s = first_fault (form_faults stored_tags (field_bytes 1 policy ++ field_bytes 2 bank ++ s))

field_rows : List Row
unfolding rules
field_rows =
    says "a body of 200" (refused_by (5 ∷ 4 ∷ 0 ∷ 200 ∷ 0 ∷ 0 ∷ 0 ∷ [])) none refl
    ∷ says "a body whose fourth byte alone isn't 0" (refused_by (5 ∷ 4 ∷ 0 ∷ 0 ∷ 0 ∷ 0 ∷ 1 ∷ [])) none refl
    ∷ says "the largest body" (refused_by (tag_five (2 ^ 32 - 1))) none refl
    ∷ says "a body of 0: 25" (refused_by (tag_five 0)) (some (fault 25)) refl
    ∷ says "another length and a body of 0: 22, before 25" (refused_by (5 ∷ 3 ∷ 0 ∷ 0 ∷ 0 ∷ 0 ∷ [])) (some (fault 22)) refl
    ∷ says "another length, and cut: 22, before 20" (refused_by (5 ∷ 5 ∷ 0 ∷ 0 ∷ [])) (some (fault 22)) refl
    ∷ says "a cut body of zeros: 20, before 25" (refused_by (5 ∷ 4 ∷ 0 ∷ 0 ∷ 0 ∷ 0 ∷ [])) (some (fault 20)) refl
    ∷ says "tag 4 with another body, then tag 5 with 0: 23, before 25" (stored_with (4 ∷ 1 ∷ 0 ∷ 2 ∷ tag_five 0)) (some (fault 23)) refl
    ∷ says "tag 4, then tag 5 with 0: 25" (stored_with (4 ∷ 1 ∷ 0 ∷ 1 ∷ tag_five 0)) (some (fault 25)) refl
    ∷ says "tag 5 before tag 4: 21" (stored_with (tag_five 200 ++ (4 ∷ 1 ∷ 0 ∷ 1 ∷ []))) (some (fault 21)) refl
    ∷ []
