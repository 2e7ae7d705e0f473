-- For the exported functions that bound a decision: their refusals in their order, and the word and buffer that they leave.
use Rattle.std.specs.Prelude.{ℕ, List, length}
use Rattle.std.proofs.Math.Option.{Option, none, some}
use Rattle.rules.specs.Records.{input_of, policy_of}
use Rattle.rules.specs.Refused.{Fault, Answer, refused, answered}
use Rattle.rules.specs.Numbers.{Boundary}
use Rattle.rules.specs.Win.{what_would_win_of}
use Rattle.rules.specs.Margin.{decision_margin_of}
use Rattle.export_boundary_bytes.specs.Layout.{boundary_size, boundary_bytes}
use Rattle.export_checks.specs.Checks.{Lent, call_faults, handed}

-- ---- `volankizo_what_would_win` and `volankizo_decision_margin`

-- What a boundary call answers: its refusal, or all of it
abbrev pub bounds_or : Option Fault → Boundary → Answer Boundary
bounds_or none b = answered b
bounds_or (some f) b = refused f

unfoldable pub bounds_in : Boundary → Answer Boundary
bounds_in b = bounds_or b.refusal b

-- 22, 23, 1, 2, 4, 5
abbrev pub win_call : Lent → ℕ → List ℕ → ℕ × List ℕ
win_call l id out =
    handed
    boundary_bytes
    (call_faults l boundary_size (length out))
    (bounds_in (what_would_win_of (policy_of l.policy) (input_of l.request) l.bank id))
    out

-- 22, 23, 1, 2, 4, 6
abbrev pub margin_call : Lent → List ℕ → ℕ × List ℕ
margin_call l out =
    handed
    boundary_bytes
    (call_faults l boundary_size (length out))
    (bounds_in (decision_margin_of (policy_of l.policy) (input_of l.request) l.bank))
    out
