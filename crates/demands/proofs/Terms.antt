-- What scaled price and utility do where scale, latency, quality or cost move. No other law of demand 3 opens them, and what the two costs do where
-- prices rise is in `Rounding`. Assumes nothing.
use Rattle.rules.proofs.Kit.{ℕ, ◌*◌, ◌≤◌, mul-le-mul_left, mul-le-mul_right, arith, pos, ◌-ℤ◌}
use Rattle.rules.specs.{Limits.ppm, Price.scaled_price, Utility.or_zero, Utility.share_of, Utility.quality_term_of, Utility.risk_term_of, Utility.charged_ms}
use Rattle.rules.specs.{Utility.latency_term_of, Utility.held, Utility.exact_utility_of, Utility.utility_of, declared.records.KernelModel.KernelModel}
use Rattle.rules.specs.{declared.records.KernelInput.KernelInput, declared.records.PolicySnapshot.PolicySnapshot}
use Rattle.demands.specs.Standing.{Favours}
use Rattle.demands.proofs.Integers.{AtMost, less_taken, held_up}

-- A scaled price does not fall where the scale rises, and at a scale of one it is no higher than the price
pub scaled_rises : (price s t : ℕ) → s ≤ t → scaled_price price s ≤ scaled_price price t
unfolding scaled_price
scaled_rises price s t h = omega (arith, mul-le-mul_left price h)

pub scaled_at_one : (price : ℕ) → scaled_price price ppm ≤ price
unfolding scaled_price
scaled_at_one price = omega arith

-- Held within i64, quality less risk, cost and latency does not fall where quality does not, and neither cost nor latency rises
pub difference_rises : (worse better risk more less late early : ℕ) → worse ≤ better → less ≤ more → early ≤ late
    → AtMost (held (pos worse -ℤ pos risk -ℤ pos more -ℤ pos late)) (held (pos better -ℤ pos risk -ℤ pos less -ℤ pos early))
difference_rises worse better risk more less late early quality cost latency =
    let w = pos worse -ℤ pos risk in
    let b = pos better -ℤ pos risk in
    held_up (w -ℤ pos more -ℤ pos late) (b -ℤ pos less -ℤ pos early)
    (less_taken (w -ℤ pos more) (b -ℤ pos less) late early
    (less_taken w b more less (less_taken (pos worse) (pos better) risk risk quality (omega arith)) cost)
    latency)

module _ (p : PolicySnapshot) (q : KernelInput) (y x : KernelModel) (f : Favours y x) where
  -- THE ONE LAW OF THE LATENCY TERM that demand 3 asks for: it does not rise where latency doesn't. It holds under every allowance, since of no more
  -- milliseconds no more are above it; and so demand 3 does, by one proof: none of its other laws asks what is free
  latency-term-falls : latency_term_of p y ≤ latency_term_of p x
  unfolding latency_term_of charged_ms
  latency-term-falls = mul-le-mul_right p.latency_penalty_microunits_per_ms (omega (arith, f.latency))

  quality-term-rises : quality_term_of x q ≤ quality_term_of y q
  unfolding quality_term_of share_of
  quality-term-rises = omega (arith, mul-le-mul_left (or_zero q.business_value_microunits * q.confidence_bps) f.quality)

  -- The utility does not fall where quality does not, and neither latency nor cost rises
  pub utility-rises : (less more : ℕ) → less ≤ more → AtMost (utility_of p x q more) (utility_of p y q less)
  unfolding utility_of exact_utility_of
  utility-rises less more h =
      difference_rises (quality_term_of x q) (quality_term_of y q) (risk_term_of p q) more less (latency_term_of p x) (latency_term_of p y)
      quality-term-rises h latency-term-falls
