-- The Rust's fast and slow ways to a model's cost and terms, as it computes them: `Pricing` and the functions that it calls. A catalogue
-- is a list of models; its four maxima are the Rust's, and the tests that choose a way are over them. The Rust knows no allowance: every millisecond
-- is charged.
use Rattle.std.specs.Prelude.{ℕ, max, min, ◌-◌, ◌*◌, ◌/◌, Bool, cond, List, [], ◌∷◌, ℤ, pos, ◌-ℤ◌}
use Rattle.std.proofs.Math.Option.{Option, none, some, bind as and_then, Option-elim as map_or_else}
use Rattle.rules.specs.Limits.{cost_scale, scaled_basis_points, max_u64}
use Rattle.rules.specs.Utility.{or_zero, held}
use Rattle.rules.specs.declared.records.KernelModel.{KernelModel}
use Rattle.rules.specs.declared.records.KernelInput.{KernelInput}
use Rattle.rules.specs.declared.records.PolicySnapshot.{PolicySnapshot}
use Rattle.demands.specs.Machine.{wrapping_mul, wrapping_add, checked_mul, checked_add, is_some, saturating_mul, saturating_add}

-- ---- PolicySnapshot::new_unchecked: the maxima of a catalogue

-- The largest key in a list, 0 where it is empty
unfoldable pub largest : {A : Type 0} → (A → ℕ) → List A → ℕ
largest key [] = 0
largest key (x ∷ xs) = max (key x) (largest key xs)

abbrev pub max_quality : List KernelModel → ℕ
max_quality ms = largest (λ m. m.quality_bps) ms

abbrev pub max_latency : List KernelModel → ℕ
max_latency ms = largest (λ m. m.p95_latency_ms) ms

abbrev pub max_input_cost : List KernelModel → ℕ
max_input_cost ms = largest (λ m. m.input_cost_microunits_per_million_tokens) ms

abbrev pub max_output_cost : List KernelModel → ℕ
max_output_cost ms = largest (λ m. m.output_cost_microunits_per_million_tokens) ms

-- ---- the cost

-- COST_ROUNDING: 999,999, added before the division, so that it rounds up
abbrev pub cost_rounding : ℕ
cost_rounding = cost_scale - 1

-- model_cost_fast: u64 that wraps, one direction and both
abbrev pub billed_fast : ℕ → ℕ → ℕ
billed_fast tokens price = wrapping_add (wrapping_mul tokens price) cost_rounding / cost_scale

unfoldable pub model_cost_fast : KernelModel → KernelInput → ℕ
model_cost_fast m q =
    wrapping_add
    (billed_fast q.input_tokens m.input_cost_microunits_per_million_tokens)
    (billed_fast q.output_tokens m.output_cost_microunits_per_million_tokens)

-- model_cost_reference: u128 that saturates, one direction and both; then at most 2 ^ 64 - 1
abbrev pub billed_reference : ℕ → ℕ → ℕ
billed_reference tokens price = saturating_add (saturating_mul tokens price) cost_rounding / cost_scale

unfoldable pub model_cost_reference : KernelModel → KernelInput → ℕ
model_cost_reference m q =
    min max_u64
    (saturating_add
    (billed_reference q.input_tokens m.input_cost_microunits_per_million_tokens)
    (billed_reference q.output_tokens m.output_cost_microunits_per_million_tokens))

-- all_costs_fit_u64: tokens times the highest price, then with 999,999 added, then both directions added, each fits 64 bits
abbrev pub highest_dividend : ℕ → ℕ → Option ℕ
highest_dividend tokens price = and_then (checked_mul tokens price) λ n. checked_add n cost_rounding

abbrev pub highest_dividends : List KernelModel → KernelInput → Option ℕ
highest_dividends ms q =
    and_then (highest_dividend q.input_tokens (max_input_cost ms)) λ input.
    and_then (highest_dividend q.output_tokens (max_output_cost ms)) λ output.
    checked_add input output

unfoldable pub all_costs_fit : List KernelModel → KernelInput → Bool
all_costs_fit ms q = is_some (highest_dividends ms q)

-- ---- the quality and the risk term

-- scaled_term_reference: over i128, which holds these products (`scaled_term_within_i128`)
unfoldable pub scaled_term_reference : ℕ → ℕ → ℕ → ℕ
scaled_term_reference value first second = value * first * second / scaled_basis_points

-- scaled_term_exact: over u64 where both products fit, else over i128
unfoldable pub scaled_term_exact : ℕ → ℕ → ℕ → ℕ
scaled_term_exact value first second =
    map_or_else (and_then (checked_mul value first) λ n. checked_mul n second)
    (scaled_term_reference value first second)
    (λ numerator. numerator / scaled_basis_points)

-- quality_prefix: V * confidence, where it fits 64 bits, and so does it times the highest quality
unfoldable pub quality_prefix : List KernelModel → KernelInput → Option ℕ
quality_prefix ms q =
    and_then (checked_mul (or_zero q.business_value_microunits) q.confidence_bps) λ prefix.
    cond (is_some (checked_mul prefix (max_quality ms))) (some prefix) none

-- The quality term from a prefix, and without one
unfoldable pub quality_term_fast : ℕ → KernelModel → ℕ
quality_term_fast prefix m = wrapping_mul prefix m.quality_bps / scaled_basis_points

unfoldable pub quality_term_reference : KernelModel → KernelInput → ℕ
quality_term_reference m q =
    scaled_term_reference (or_zero q.business_value_microunits) q.confidence_bps m.quality_bps

-- ---- the latency term

-- all_latencies_fit: the highest latency's term fits 64 bits
unfoldable pub all_latencies_fit : PolicySnapshot → List KernelModel → Bool
all_latencies_fit p ms = is_some (checked_mul (max_latency ms) p.latency_penalty_microunits_per_ms)

unfoldable pub latency_term_fast : PolicySnapshot → KernelModel → ℕ
latency_term_fast p m = wrapping_mul m.p95_latency_ms p.latency_penalty_microunits_per_ms

-- Over i128, which holds the product (`terms_within_i128`)
unfoldable pub latency_term_reference : PolicySnapshot → KernelModel → ℕ
latency_term_reference p m = m.p95_latency_ms * p.latency_penalty_microunits_per_ms

-- ---- Pricing: the way that its tests choose

-- Pricing::cost
unfoldable pub pricing_cost : List KernelModel → KernelModel → KernelInput → ℕ
pricing_cost ms m q = cond (all_costs_fit ms q) (model_cost_fast m q) (model_cost_reference m q)

-- Pricing::terms: quality_adjusted, risk_penalty, latency_penalty
unfoldable pub pricing_quality : List KernelModel → KernelModel → KernelInput → ℕ
pricing_quality ms m q = map_or_else (quality_prefix ms q) (quality_term_reference m q) (λ prefix. quality_term_fast prefix m)

unfoldable pub pricing_risk : PolicySnapshot → KernelInput → ℕ
pricing_risk p q = scaled_term_exact (or_zero q.business_value_microunits) q.risk_bps p.risk_penalty_multiplier_bps

unfoldable pub pricing_latency : PolicySnapshot → List KernelModel → KernelModel → ℕ
pricing_latency p ms m = cond (all_latencies_fit p ms) (latency_term_fast p m) (latency_term_reference p m)

-- Pricing::terms: quality less risk, cost and latency over i128, then held within i64
abbrev pub utility_from_terms : ℕ → ℕ → ℕ → ℕ → ℤ
utility_from_terms quality risk cost latency = held (pos quality -ℤ pos risk -ℤ pos cost -ℤ pos latency)

unfoldable pub pricing_utility : PolicySnapshot → List KernelModel → KernelModel → KernelInput → ℤ
pricing_utility p ms m q =
    utility_from_terms (pricing_quality ms m q) (pricing_risk p q) (pricing_cost ms m q) (pricing_latency p ms m)

-- The same by the slow ways alone
unfoldable pub reference_utility : PolicySnapshot → KernelModel → KernelInput → ℤ
reference_utility p m q =
    utility_from_terms (quality_term_reference m q)
    (scaled_term_reference (or_zero q.business_value_microunits) q.risk_bps p.risk_penalty_multiplier_bps)
    (model_cost_reference m q)
    (latency_term_reference p m)
