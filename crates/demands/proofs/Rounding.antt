-- The two costs that a policy can name. Neither falls where prices rise, which is what demand 3 asks of a cost; rounding apart is document 01's,
-- and what 30 bytes of a policy say; and the two differ by at most one microunit. No other law of demand 3 opens them. Assumes nothing.
use Rattle.rules.proofs.Kit.{ℕ, ◌+◌, ◌≤◌, ◌≡◌, refl, ap, ◌∙◌, List, mul-le-mul_left, arith, drop_of_length-le, length}
use Rattle.rules.specs.{Choice.equal, Bytes.number, Records.Listed, Records.policy_with, Records.policy_of, Price.Cost, Price.billed, Price.billed_both}
use Rattle.rules.specs.{Price.cost_of, Price.cost_under, Verdict.judged_by, Verdict.judged, Decide.decision_by, Decide.decision_of, Win.win_by, Win.win_in}
use Rattle.rules.specs.{Margin.margin_by, Margin.margin_in, declared.records.KernelModel.KernelModel}
use Rattle.rules.specs.{declared.records.KernelInput.KernelInput}
use Rattle.rules.specs.{declared.records.PolicySnapshot.PolicySnapshot, declared.records.Rounding.Rounding}
use Rattle.rules.specs.declared.records.Rounding.TheVariants.{Apart, Once}
use Rattle.demands.specs.{Standing.RisesWithPrices, Rounding.apart_cost, Rounding.once_cost}

-- ---- neither falls where prices rise

-- Demand 3. Rounded apart
pub apart_rises : RisesWithPrices apart_cost
unfolding apart_cost
apart_rises q y x input output = omega (arith, mul-le-mul_left q.input_tokens input, mul-le-mul_left q.output_tokens output)

-- Demand 3. Rounded once
pub once_rises : RisesWithPrices once_cost
unfolding once_cost
once_rises q y x input output = omega (arith, mul-le-mul_left q.input_tokens input, mul-le-mul_left q.output_tokens output)

-- ---- they are the rules'

-- What was, stays: rounding apart is document 01's cost, of every model for every request
pub apart_is : cost_of Apart ≡ apart_cost
unfolding cost_of billed_both billed apart_cost
apart_is = refl

-- And rounding once is the sum's
pub once_is : cost_of Once ≡ once_cost
unfolding cost_of billed_both billed once_cost
once_is = refl

-- Demand 3. HOWEVER A POLICY ROUNDS, its cost doesn't fall where prices rise
pub cost_rises : (r : Rounding) → RisesWithPrices (cost_of r)
cost_rises Apart = rw apart_is apart_rises
cost_rises Once = rw once_is once_rises

-- ---- what was, stays

module _ (p : PolicySnapshot) (q : KernelInput) (ls : List Listed) (e : p.rounding ≡ Apart) where
  -- A policy that rounds apart has document 01's cost
  pub apart-costs : cost_under p ≡ apart_cost
  apart-costs = ap cost_of e ∙ apart_is

  -- So what its records are told, and with it counts, explanation and single utilities, its decision and both boundaries are by that cost
  pub apart-judges : judged p q ls ≡ judged_by apart_cost p q ls
  apart-judges = ap (λ (c : Cost). judged_by c p q ls) apart-costs

  pub apart-decides : decision_of p q ls ≡ decision_by apart_cost p q ls
  apart-decides = ap (λ (c : Cost). decision_by c p q ls) apart-costs

  pub apart-wins : (id : ℕ) → win_in p q ls id ≡ win_by apart_cost p q ls id
  apart-wins id = ap (λ (c : Cost). win_by c p q ls id) apart-costs

  pub apart-keeps : margin_in p q ls ≡ margin_by apart_cost p q ls
  apart-keeps = ap (λ (c : Cost). margin_by c p q ls) apart-costs

-- A policy of 30 bytes, or fewer, rounds apart
pub thirty_say_apart : (s : List ℕ) → length s ≤ 30 → (policy_of s).rounding ≡ Apart
unfolding policy_of policy_with number equal
thirty_say_apart s h = rw (drop_of_length-le s h)

-- ---- the two beside each other

module _ (m : KernelModel) (q : KernelInput) where
  -- Once never costs more than apart
  pub once-at-most-apart : cost_of Once m q ≤ cost_of Apart m q
  unfolding cost_of billed_both billed
  once-at-most-apart = omega arith

  -- And apart costs at most one microunit more than once
  pub apart-at-most-one-more : cost_of Apart m q ≤ cost_of Once m q + 1
  unfolding cost_of billed_both billed
  apart-at-most-one-more = omega arith
