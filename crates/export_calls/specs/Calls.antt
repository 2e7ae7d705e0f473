-- For each exported function that decides or explains: its refusals in their order, and the word and buffers that it leaves.
use Rattle.std.specs.Prelude.{ℕ, List, length}
use Rattle.rules.specs.Records.{listed_of, input_of, policy_of}
use Rattle.rules.specs.Refused.{unless, answered}
use Rattle.rules.specs.Numbers.{DecisionAndTrace}
use Rattle.rules.specs.Decide.{traced_of}
use Rattle.rules.specs.Explain.{explain_of, explain_list}
use Rattle.export_decision_bytes.specs.Layout.{uncounted_size, uncounted_bytes, decision_size, decision_bytes}
use Rattle.export_checks.specs.Checks.{Lent, call_faults, checked_faults, handed}

-- ---- `volankizo_prescribe` and `volankizo_prescribe_checked`

abbrev pub prescribed : Lent → DecisionAndTrace
prescribed l = traced_of (policy_of l.policy) (input_of l.request) (listed_of l.bank)

-- 22, 23, 1, 2, 4
abbrev pub prescribe_call : Lent → List ℕ → ℕ × List ℕ
prescribe_call l out = handed decision_bytes (call_faults l decision_size (length out)) (answered (prescribed l)) out

-- 22, 23, 1, 2, 4, 3
abbrev pub prescribe_checked_call : Lent → List ℕ → ℕ × List ℕ
prescribe_checked_call l out = handed decision_bytes (checked_faults l decision_size (length out)) (answered (prescribed l)) out

-- ---- `volankizo_explain`

-- 22, 23, 1, 2, 4 for the decision's room, 4 for the list's: word and buffer, and the list
abbrev pub explain_call : Lent → List ℕ → List ℕ → (ℕ × List ℕ) × List ℕ
explain_call l list out =
    let p = policy_of l.policy in
    let q = input_of l.request in
    let faults = call_faults l uncounted_size (length out) in
    (handed uncounted_bytes faults (explain_of p q l.bank list) out, unless faults (λ f. list) (explain_list p q l.bank list))
