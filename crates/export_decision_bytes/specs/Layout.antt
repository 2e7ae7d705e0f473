-- A decision in bytes: its fields, a number beside its width, packed with no gap.
use Rattle.std.specs.Prelude.{ℕ, List, [], ◌∷◌, ◌++◌}
use Rattle.std.specs.Int.{w64}
use Rattle.std.proofs.Common.{of_z}
use Rattle.rules.specs.Bytes.{packed}
use Rattle.rules.specs.Numbers.{Decision, DecisionAndTrace}
use Rattle.rules.specs.declared.decision.RejectionHistogram.{RejectionHistogram}

-- A decision's bytes alone, and with its counts
abbrev pub uncounted_size : ℕ
uncounted_size = 65

abbrev pub decision_size : ℕ
decision_size = 83

-- A decision alone. Utilities are signed: `of_z w64` gives their 64 bits in two's complement
abbrev pub decision_fields : Decision → List (ℕ × ℕ)
decision_fields d =
    (8, d.sequence)
    ∷ (1, d.action)
    ∷ (2, d.reason)
    ∷ (4, d.model)
    ∷ (2, d.place)
    ∷ (8, d.cost)
    ∷ (8, of_z w64 d.utility)
    ∷ (4, d.counterfactual)
    ∷ (8, of_z w64 d.counterfactual_utility)
    ∷ (2, d.evaluated)
    ∷ (2, d.eligible)
    ∷ (8, d.policy_epoch)
    ∷ (8, d.catalog_epoch)
    ∷ []

abbrev pub count_fields : RejectionHistogram → List (ℕ × ℕ)
count_fields n =
    (2, n.disabled)
    ∷ (2, n.quality)
    ∷ (2, n.risk_ceiling)
    ∷ (2, n.latency)
    ∷ (2, n.capability)
    ∷ (2, n.provider)
    ∷ (2, n.region)
    ∷ (2, n.budget)
    ∷ (2, n.utility)
    ∷ []

unfoldable pub uncounted_bytes : Decision → List ℕ
uncounted_bytes d = packed (decision_fields d)

-- A decision with its counts
unfoldable pub decision_bytes : DecisionAndTrace → List ℕ
decision_bytes a = packed (decision_fields a.decision ++ count_fields a.trace.rejections)
