-- What a policy and a request settle once.
use Rattle.std.specs.Prelude.{◌≡◌, ℕ, ◌*◌, ◌^◌, ◌<◌}
use Rattle.rules.specs.Choice.{below}
use Rattle.rules.specs.Limits.{max_u64}
use Rattle.rules.specs.Utility.{or_zero, risk_term_of}
use Rattle.rules.specs.Wide.{val, wide_of}
use Rattle.rules.specs.declared.records.KernelInput.{KernelInput}
use Rattle.rules.specs.declared.records.PolicySnapshot.{PolicySnapshot}
use Rattle.pricing.specs.declared.Pricing.{Pricing}

-- a value times a share, where that fits for every share, else the largest number
unfoldable pub prefix_of : ℕ → ℕ → ℕ
prefix_of value share = below value (2 ^ 48) (value * share) max_u64

-- D15, D16, D17, D18, O1, F1. What is the same for every model: V, the quality term's first factor, the risk term, the penalty, how a cost is rounded,
-- and the allowance
unfoldable pub pricing_of : PolicySnapshot → KernelInput → Pricing
pricing_of p q =
    record {
      value = or_zero q.business_value_microunits;
      confidence_bps = q.confidence_bps;
      quality_prefix = prefix_of (or_zero q.business_value_microunits) q.confidence_bps;
      risk_penalty = wide_of (risk_term_of p q);
      latency_pen_per_ms = p.latency_penalty_microunits_per_ms;
      rounding = p.rounding;
      latency_allowance_ms = p.latency_allowance_ms;
    }

-- a pricing whose parts belong together: the prefix is that of its value, and the risk term leaves room for the others
pub record Settled (pr : Pricing) : Type 0 where
  pub prefix : pr.quality_prefix ≡ prefix_of pr.value pr.confidence_bps
  pub room : val pr.risk_penalty < 2 ^ 70
