-- WHAT i128 HOLDS (demand 2): the Rust's slow products and the difference of the four terms cannot overflow, so that they are exact.
-- The cost is the one that it rounds apart, the latency term the one under any allowance. Assumed: fields within the Rust's types.
use Rattle.rules.proofs.Kit.{ℕ, ◌+◌, ◌*◌, ◌^◌, ◌≤◌, ◌<◌, lt_of_le_of_lt, lt_of_lt_of_le, min-le_left, div-le_self, arith, lit<, lit≤, ℤ, pos, negsuc}
use Rattle.rules.specs.{Limits.max_u64, Price.cost_of, Utility.or_zero, Utility.share_of, Utility.quality_term_of, Utility.risk_term_of, Utility.charged_ms}
use Rattle.rules.specs.{Utility.latency_term_of}
use Rattle.rules.specs.{declared.records.KernelModel.KernelModel, declared.records.KernelInput.KernelInput, declared.records.PolicySnapshot.PolicySnapshot}
use Rattle.rules.specs.declared.records.Rounding.TheVariants.{Apart}
use Rattle.demands.specs.Widths.{InI64, ModelTyped, RequestTyped, PolicyTyped}
use Rattle.demands.proofs.Laws.{product_lt}

value_lt : (z : ℤ) → InI64 z → or_zero z < 2 ^ 63
value_lt (pos n) h = h
value_lt (negsuc n) h = lit< tt

share_lt : (value first second : ℕ) → value < 2 ^ 63 → first < 2 ^ 16 → second < 2 ^ 16 → share_of value first second < 2 ^ 95
unfolding share_of
share_lt value first second v a b = lt_of_le_of_lt (div-le_self _ _) (product_lt 79 16 (product_lt 63 16 v a) b)

cost_le : (m : KernelModel) (q : KernelInput) → cost_of Apart m q ≤ max_u64
unfolding cost_of
cost_le m q = min-le_left _ _

-- `scaled_term_reference`: both products, where the value is an i64 that is not negative and the shares are u16
pub scaled_term_within_i128 : (value first second : ℕ) → value < 2 ^ 63 → first < 2 ^ 16 → second < 2 ^ 16
    → (value * first < 2 ^ 127) × (value * first * second < 2 ^ 127)
scaled_term_within_i128 value first second v a b =
    let one = product_lt 63 16 v a in
    (lt_of_lt_of_le one (lit≤ tt), lt_of_lt_of_le (product_lt 79 16 one b) (lit≤ tt))

-- `Pricing::terms`: the latency term; and quality less risk, cost and latency, which stays between minus their sum and the quality term
pub terms_within_i128 : (p : PolicySnapshot) (m : KernelModel) (q : KernelInput) → PolicyTyped p → ModelTyped m → RequestTyped q
    → (latency_term_of p m < 2 ^ 127) × (quality_term_of m q < 2 ^ 127) × (risk_term_of p q + cost_of Apart m q + latency_term_of p m < 2 ^ 127)
unfolding quality_term_of risk_term_of charged_ms latency_term_of
terms_within_i128 p m q pt mt qt =
    let value = value_lt q.business_value_microunits qt.value in
    let charged : charged_ms p m ≤ m.p95_latency_ms = omega arith in
    let latency = product_lt 32 64 (lt_of_le_of_lt charged mt.latency) pt.penalty in
    let risk = share_lt _ _ _ value qt.risk pt.multiplier in
    let losses : risk_term_of p q + cost_of Apart m q + latency_term_of p m ≤ 2 ^ 97 = omega (arith, cost_le m q) in (
      lt_of_lt_of_le latency (lit≤ tt),
      lt_of_lt_of_le (share_lt _ _ _ value qt.confidence mt.quality) (lit≤ tt),
      lt_of_le_of_lt losses (lit< tt),
    )
