-- THE FAST AND THE SLOW PATHS AGREE: whichever of its two ways of computing the Rust takes, cost, terms and utility are those of the rules
-- (D21), where they round apart as it does and no millisecond is free, since it knows no allowance. Assumed: a model is one of the catalogue, and
-- fields are within the Rust's types. `Widths` adds that i128 holds the slow numbers.
use Rattle.rules.proofs.Kit.{ℕ, min, ◌*◌, ◌/◌, ◌^◌, ◌<◌, ◌≡◌, refl, sym, ap, ◌∙◌, true, List, List-as-Memᴰ, some, bind-eq-some_iff, mod-eq_of_lt, lt_of_le_of_lt}
use Rattle.rules.proofs.Kit.{mul-le-mul_left, mul-le-mul_right, arith}
use Rattle.rules.specs.{Limits.scaled_basis_points, Limits.max_u64, Price.billed_both, Price.cost_of, Utility.or_zero, Utility.share_of, Utility.quality_term_of}
use Rattle.rules.specs.{Utility.risk_term_of, Utility.latency_term_of, Utility.exact_utility_of, Utility.utility_of, declared.records.KernelModel.KernelModel}
use Rattle.rules.specs.{declared.records.KernelInput.KernelInput, declared.records.PolicySnapshot.PolicySnapshot}
use Rattle.rules.specs.declared.records.Rounding.TheVariants.{Apart}
use Rattle.demands.specs.{Machine.wrapping_mul, Widths.ModelTyped, Widths.RequestTyped, Paths.max_quality, Paths.model_cost_fast, Paths.model_cost_reference}
use Rattle.demands.specs.Allowance.{term_in_full}
use Rattle.demands.specs.{Paths.all_costs_fit, Paths.scaled_term_reference, Paths.scaled_term_exact, Paths.quality_prefix, Paths.quality_term_fast}
use Rattle.demands.specs.{Paths.quality_term_reference, Paths.all_latencies_fit, Paths.latency_term_fast, Paths.latency_term_reference, Paths.pricing_cost}
use Rattle.demands.specs.{Paths.pricing_quality, Paths.pricing_risk, Paths.pricing_latency, Paths.pricing_utility, Paths.reference_utility}
use Rattle.demands.proofs.{Laws.at_most_largest, Laws.checked_some, Laws.is_some_lem, Laws.kept, Laws.either_way, Laws.by_test, Costs.costs_fit}
use Rattle.demands.proofs.{Costs.sum-fast, Costs.sum-reference, Allowance.none_is}

-- ---- the slow ways are the rules

-- Demand 2, cost. The slow cost is the rule's cost, rounded apart
pub cost_reference : (m : KernelModel) (q : KernelInput) → ModelTyped m → RequestTyped q → model_cost_reference m q ≡ cost_of Apart m q
unfolding model_cost_reference cost_of billed_both
cost_reference m q mt qt = ap (min max_u64) (sum-reference _ _ _ _ qt.input_tokens mt.input_price qt.output_tokens mt.output_price)

-- Demand 2, terms. The slow share of a value is the rule's
pub scaled_reference : (value first second : ℕ) → scaled_term_reference value first second ≡ share_of value first second
unfolding scaled_term_reference share_of
scaled_reference value first second = refl

-- Demand 2, terms. The slow quality term is the rule's
pub quality_reference : (m : KernelModel) (q : KernelInput) → quality_term_reference m q ≡ quality_term_of m q
unfolding quality_term_reference quality_term_of
quality_reference m q = scaled_reference _ _ _

-- Demand 2, terms. The slow latency term is the rule's, where there is no allowance
pub latency_reference : (p : PolicySnapshot) (m : KernelModel) → p.latency_allowance_ms ≡ 0 → latency_term_reference p m ≡ latency_term_of p m
unfolding latency_term_reference term_in_full
latency_reference p m none = sym (none_is p none m)

-- ---- the fast share

-- Demand 2, terms. The share by checked products is the slow one, always
pub scaled_paths : (value first second : ℕ) → scaled_term_exact value first second ≡ scaled_term_reference value first second
unfolding scaled_term_exact scaled_term_reference
scaled_paths value first second = either_way _ _ _ λ n e.
    let (k, one, both) = (bind-eq-some_iff _ _).0 e in
    ap (λ i. i / scaled_basis_points) ((checked_some (k * second) n both).1 ∙ ap (λ i. i * second) (checked_some (value * first) k one).1)

-- a prefix that is taken is V * confidence, and 64 bits hold it times the highest quality
prefix_fits : (ms : List KernelModel) (q : KernelInput) (prefix : ℕ) → quality_prefix ms q ≡ some prefix
    → (prefix ≡ or_zero q.business_value_microunits * q.confidence_bps) × (prefix * max_quality ms < 2 ^ 64)
unfolding quality_prefix
prefix_fits ms q prefix e =
    let (k, product, taken) = (bind-eq-some_iff _ _).0 e in
    let (passed, same) = kept _ k prefix taken in
    let (n, fits) = is_some_lem _ passed in
    (sym same ∙ (checked_some _ k product).1, rw same at (checked_some _ n fits).0)

-- ---- the fast ways, for every model of a catalogue

module _ (ms : List KernelModel) (m : KernelModel) (q : KernelInput) (among : List-as-Memᴰ m ms) where
  -- Demand 2, cost. Where the test over the catalogue's maxima passes, the fast cost is the rule's
  pub cost-fast : all_costs_fit ms q ≡ true → model_cost_fast m q ≡ cost_of Apart m q
  unfolding model_cost_fast cost_of billed_both
  cost-fast fit =
      let input = mul-le-mul_left q.input_tokens (at_most_largest (λ m. m.input_cost_microunits_per_million_tokens) among) in
      let output = mul-le-mul_left q.output_tokens (at_most_largest (λ m. m.output_cost_microunits_per_million_tokens) among) in
      sum-fast _ _ _ _ (omega (arith, costs_fit ms q fit))

  -- Demand 2, cost. So the fast cost is the slow one
  pub cost-paths : ModelTyped m → RequestTyped q → all_costs_fit ms q ≡ true → model_cost_fast m q ≡ model_cost_reference m q
  cost-paths mt qt fit = cost-fast fit ∙ sym (cost_reference m q mt qt)

  -- Demand 2, terms. Where a prefix is taken, the fast quality term is the rule's
  pub quality-fast : (prefix : ℕ) → quality_prefix ms q ≡ some prefix → quality_term_fast prefix m ≡ quality_term_of m q
  unfolding quality_term_fast quality_term_of share_of wrapping_mul
  quality-fast prefix taken =
      let (exact, fits) = prefix_fits ms q prefix taken in
      let most = mul-le-mul_left prefix (at_most_largest (λ m. m.quality_bps) among) in
      rw (mod-eq_of_lt (lt_of_le_of_lt most fits), exact)

  -- Demand 2, terms. So the fast quality term is the slow one
  pub quality-paths : (prefix : ℕ) → quality_prefix ms q ≡ some prefix → quality_term_fast prefix m ≡ quality_term_reference m q
  quality-paths prefix taken = quality-fast prefix taken ∙ sym (quality_reference m q)

  -- by the way that the test chooses
  cost-way : ModelTyped m → RequestTyped q → pricing_cost ms m q ≡ cost_of Apart m q
  unfolding pricing_cost
  cost-way mt qt = by_test _ _ _ (cost-paths mt qt) ∙ cost_reference m q mt qt

  quality-way : pricing_quality ms m q ≡ quality_term_of m q
  unfolding pricing_quality
  quality-way = either_way _ _ _ quality-paths ∙ quality_reference m q

module _ (p : PolicySnapshot) (ms : List KernelModel) (m : KernelModel) (among : List-as-Memᴰ m ms) where
  -- Demand 2, terms. Where the highest latency's term fits, the fast latency term is the slow one
  pub latency-paths : all_latencies_fit p ms ≡ true → latency_term_fast p m ≡ latency_term_reference p m
  unfolding latency_term_fast latency_term_reference all_latencies_fit wrapping_mul
  latency-paths fit =
      let (n, e) = is_some_lem _ fit in
      let most = mul-le-mul_right p.latency_penalty_microunits_per_ms (at_most_largest (λ m. m.p95_latency_ms) among) in
      mod-eq_of_lt (lt_of_le_of_lt most (checked_some _ n e).0)

  module _ (none : p.latency_allowance_ms ≡ 0) where
    -- Demand 2, terms. So, where there is no allowance, it is the rule's
    pub latency-fast : all_latencies_fit p ms ≡ true → latency_term_fast p m ≡ latency_term_of p m
    latency-fast fit = latency-paths fit ∙ latency_reference p m none

    latency-way : pricing_latency p ms m ≡ latency_term_of p m
    unfolding pricing_latency
    latency-way = by_test _ _ _ latency-paths ∙ latency_reference p m none

risk_way : (p : PolicySnapshot) (q : KernelInput) → pricing_risk p q ≡ risk_term_of p q
unfolding pricing_risk risk_term_of
risk_way p q = scaled_paths _ _ _ ∙ scaled_reference _ _ _

-- ---- the utility

module _ (p : PolicySnapshot) (m : KernelModel) (q : KernelInput) (mt : ModelTyped m) (qt : RequestTyped q) (none : p.latency_allowance_ms ≡ 0) where
  -- Demand 2, utility. For every model of a catalogue, `Pricing` computes the rule's utility, whichever way each test chooses
  pub utility-paths : (ms : List KernelModel) → List-as-Memᴰ m ms → pricing_utility p ms m q ≡ utility_of p m q (cost_of Apart m q)
  unfolding pricing_utility utility_of exact_utility_of
  utility-paths ms among = rw (quality-way ms m q among, risk_way p q, cost-way ms m q among mt qt, latency-way p ms m among none)

  -- Demand 2, utility. And so do the slow ways alone
  pub utility-reference : reference_utility p m q ≡ utility_of p m q (cost_of Apart m q)
  unfolding reference_utility utility_of exact_utility_of risk_term_of
  utility-reference = rw (quality_reference m q, scaled_reference, cost_reference m q mt qt, latency_reference p m none)
