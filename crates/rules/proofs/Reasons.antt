-- The reason that each gate counts for. Assumes nothing.
use Rattle.rules.proofs.Kit.{ℕ, zero, suc, ◌<◌, ◌≤◌, eq-or-lt_of_le, arith, ◌≡◌, ◌⊎◌, inl, inr, ⊎_elim, [], ◌∷◌, List·get_d-eq-default}
use Rattle.rules.specs.{Count.gate_reason, Numbers.reason_no, declared.decision.KernelReason.KernelReason}
use Rattle.rules.specs.declared.decision.KernelReason.TheVariants as reason

-- A number that is at least another and not that one is above it
pub past : {k n : ℕ} → k ≤ n → (n ≡ k → ⊥) → k < n
past h not = omega (arith, not)

-- A number that is no gate's has no reason
pub reason_none : (gate : ℕ) → (gate < 1) ⊎ (8 < gate) → gate_reason gate ≡ 0
unfolding gate_reason
reason_none gate (inl h) = let e : gate ≡ 0 = omega arith in rw e
reason_none gate (inr h) = List·get_d-eq-default (0 ∷ 102 ∷ 103 ∷ 104 ∷ 105 ∷ 106 ∷ 106 ∷ 107 ∷ 110 ∷ []) 0 h

-- Gates 5 and 6 share one
pub reason_shared : (gate : ℕ) → 4 < gate → gate < 7 → gate_reason gate ≡ 106
unfolding gate_reason
reason_shared gate lo hi =
    ⊎_elim (λ h. let e : gate ≡ 5 = omega arith in rw e) (λ h. let e : gate ≡ 6 = omega arith in rw e) (eq-or-lt_of_le lo)

-- Every gate's reason is one of the nine, which are the numbers from 102 to 110
pub reason_counted : (gate : ℕ) → 0 < gate → gate ≤ 8 → (102 ≤ gate_reason gate) × (gate_reason gate ≤ 110)
unfolding gate_reason
reason_counted zero lo hi = absurd (omega arith)
reason_counted (suc zero) lo hi = (omega arith, omega arith)
reason_counted (suc (suc zero)) lo hi = (omega arith, omega arith)
reason_counted (suc (suc (suc zero))) lo hi = (omega arith, omega arith)
reason_counted (suc (suc (suc (suc zero)))) lo hi = (omega arith, omega arith)
reason_counted (suc (suc (suc (suc (suc zero))))) lo hi = (omega arith, omega arith)
reason_counted (suc (suc (suc (suc (suc (suc zero)))))) lo hi = (omega arith, omega arith)
reason_counted (suc (suc (suc (suc (suc (suc (suc zero))))))) lo hi = (omega arith, omega arith)
reason_counted (suc (suc (suc (suc (suc (suc (suc (suc zero)))))))) lo hi = (omega arith, omega arith)
reason_counted (suc (suc (suc (suc (suc (suc (suc (suc (suc gate))))))))) lo hi = absurd (omega arith)

-- A reason's number is never 0
pub reason_some : (r : KernelReason) → 0 < reason_no r
reason_some reason.RequestedModelMaximizesUtility = omega arith
reason_some reason.AlternativeMaximizesUtility = omega arith
reason_some reason.RiskHardLimit = omega arith
reason_some reason.ConfidenceHardLimit = omega arith
reason_some reason.NoEnabledModel = omega arith
reason_some reason.QualityConstraint = omega arith
reason_some reason.LatencyConstraint = omega arith
reason_some reason.CapabilityConstraint = omega arith
reason_some reason.ProviderConstraint = omega arith
reason_some reason.RegionConstraint = omega arith
reason_some reason.BudgetConstraint = omega arith
reason_some reason.NonPositiveUtility = omega arith
reason_some reason.RiskCeilingConstraint = omega arith
