-- For each exported function that decides or explains over live records: its refusals in their order, and the word and buffers that it leaves.
use Rattle.std.specs.Prelude.{ℕ, List, length}
use Rattle.rules.specs.Records.{input_of, policy_of}
use Rattle.rules.specs.Refused.{unless, answered}
use Rattle.rules.specs.Numbers.{DecisionAndTrace}
use Rattle.rules.specs.Decide.{traced_of}
use Rattle.rules.specs.Slots.{live_in}
use Rattle.rules.specs.Live.{live_explain_of, live_explain_list}
use Rattle.export_decision_bytes.specs.Layout.{uncounted_size, uncounted_bytes, decision_size, decision_bytes}
use Rattle.export_checks.specs.Checks.{Lent, handed}
use Rattle.export_live_checks.specs.LiveChecks.{live_call_faults, live_checked_faults}

-- ---- `volankizo_live_prescribe` and `volankizo_live_prescribe_checked`

abbrev pub live_prescribed : Lent → DecisionAndTrace
live_prescribed l = traced_of (policy_of l.policy) (input_of l.request) (live_in l.bank)

-- 22, 23, 1, 2, 34, 4
abbrev pub live_prescribe_call : Lent → List ℕ → ℕ × List ℕ
live_prescribe_call l out = handed decision_bytes (live_call_faults l decision_size (length out)) (answered (live_prescribed l)) out

-- 22, 23, 1, 2, 34, 4, 3
abbrev pub live_prescribe_checked_call : Lent → List ℕ → ℕ × List ℕ
live_prescribe_checked_call l out = handed decision_bytes (live_checked_faults l decision_size (length out)) (answered (live_prescribed l)) out

-- ---- `volankizo_live_explain`

-- 22, 23, 1, 2, 34, 4 for the decision's room, 4 for the list's: word and buffer, and the list
abbrev pub live_explain_call : Lent → List ℕ → List ℕ → (ℕ × List ℕ) × List ℕ
live_explain_call l list out =
    let p = policy_of l.policy in
    let q = input_of l.request in
    let faults = live_call_faults l uncounted_size (length out) in
    (handed uncounted_bytes faults (live_explain_of p q l.bank list) out, unless faults (λ f. list) (live_explain_list p q l.bank list))
