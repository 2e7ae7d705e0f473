-- Document 01, "Deciding": the terms of a utility, and the utility; document 02, f: the milliseconds that are free.
use Rattle.std.specs.Prelude.{ℕ, min, ◌-◌, ◌*◌, ◌/◌, ℤ, pos, negsuc, ◌-ℤ◌}
use Rattle.rules.specs.Limits.{scaled_basis_points, max_i64}
use Rattle.rules.specs.declared.records.KernelModel.{KernelModel}
use Rattle.rules.specs.declared.records.KernelInput.{KernelInput}
use Rattle.rules.specs.declared.records.PolicySnapshot.{PolicySnapshot}

-- D15. V: a value, or 0 where it is negative
abbrev pub or_zero : ℤ → ℕ
or_zero (pos n) = n
or_zero (negsuc n) = 0

-- D16, D17. A value times two shares in basis points, rounded down
unfoldable pub share_of : ℕ → ℕ → ℕ → ℕ
share_of value a b = value * a * b / scaled_basis_points

-- D16. The quality term
unfoldable pub quality_term_of : KernelModel → KernelInput → ℕ
quality_term_of m q = share_of (or_zero q.business_value_microunits) q.confidence_bps m.quality_bps

-- D17. The risk term, the same for every model
unfoldable pub risk_term_of : PolicySnapshot → KernelInput → ℕ
risk_term_of p q = share_of (or_zero q.business_value_microunits) q.risk_bps p.risk_penalty_multiplier_bps

-- F1. The milliseconds that are charged: those above the policy's allowance, none where there are none above it (`-` of the library stops at 0)
unfoldable pub charged_ms : PolicySnapshot → KernelModel → ℕ
charged_ms p m = m.p95_latency_ms - p.latency_allowance_ms

-- D18, F1. The latency term
unfoldable pub latency_term_of : PolicySnapshot → KernelModel → ℕ
latency_term_of p m = charged_ms p m * p.latency_penalty_microunits_per_ms

-- D19. An integer held within i64; `negsuc n` is -(n + 1)
abbrev pub held : ℤ → ℤ
held (pos n) = pos (min n max_i64)
held (negsuc n) = negsuc (min n max_i64)

-- D19. At a cost: quality less risk, cost and latency, exact; then held
unfoldable pub exact_utility_of : PolicySnapshot → KernelModel → KernelInput → ℕ → ℤ
exact_utility_of p m q cost = pos (quality_term_of m q) -ℤ pos (risk_term_of p q) -ℤ pos cost -ℤ pos (latency_term_of p m)

unfoldable pub utility_of : PolicySnapshot → KernelModel → KernelInput → ℕ → ℤ
utility_of p m q cost = held (exact_utility_of p m q cost)
