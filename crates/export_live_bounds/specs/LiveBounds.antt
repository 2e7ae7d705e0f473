-- For the exported functions that bound a decision over live records: their refusals in their order, and the word and buffer that they leave.
use Rattle.std.specs.Prelude.{ℕ, List, length}
use Rattle.rules.specs.Records.{input_of, policy_of}
use Rattle.rules.specs.Live.{live_what_would_win_of, live_decision_margin_of}
use Rattle.export_boundary_bytes.specs.Layout.{boundary_size, boundary_bytes}
use Rattle.export_checks.specs.Checks.{Lent, handed}
use Rattle.export_bounds.specs.Bounds.{bounds_in}
use Rattle.export_live_checks.specs.LiveChecks.{live_call_faults}

-- `volankizo_live_what_would_win`: 22, 23, 1, 2, 34, 4, 5
abbrev pub live_win_call : Lent → ℕ → List ℕ → ℕ × List ℕ
live_win_call l id out =
    handed
    boundary_bytes
    (live_call_faults l boundary_size (length out))
    (bounds_in (live_what_would_win_of (policy_of l.policy) (input_of l.request) l.bank id))
    out

-- `volankizo_live_decision_margin`: 22, 23, 1, 2, 34, 4, 6
abbrev pub live_margin_call : Lent → List ℕ → ℕ × List ℕ
live_margin_call l out =
    handed
    boundary_bytes
    (live_call_faults l boundary_size (length out))
    (bounds_in (live_decision_margin_of (policy_of l.policy) (input_of l.request) l.bank))
    out
