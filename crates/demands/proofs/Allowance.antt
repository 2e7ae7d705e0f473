-- What an allowance does to the latency term: nothing where there is none, so that what was, stays; and where there is one, milliseconds up to it are
-- free and those above it are charged. Demand 3 asks nothing of this file: under every allowance it rests on `Terms`. Assumes nothing.
use Rattle.rules.proofs.Kit.{ℕ, ◌+◌, ◌-◌, ◌*◌, ◌≤◌, ◌≡◌, refl, ap, List, [], ◌∷◌, arith, mul-le-mul_right, drop_of_length-le, length, le_refl}
use Rattle.rules.specs.{Bytes.number, Records.Listed, Records.policy_with, Records.policy_of, Price.Cost, Utility.quality_term_of, Utility.risk_term_of}
use Rattle.rules.specs.{Utility.charged_ms, Utility.latency_term_of, Utility.exact_utility_of, Utility.utility_of, Verdict.by_utility, Verdict.verdict_costing}
use Rattle.rules.specs.{Verdict.judged_by, Decide.decision_by, Levers.Question, Levers.decision_at, Levers.wins, Levers.selects}
use Rattle.rules.specs.{declared.records.KernelModel.KernelModel, declared.records.KernelInput.KernelInput, declared.records.PolicySnapshot.PolicySnapshot}
use Rattle.demands.specs.Allowance.{with_allowance, NowhereWorthLess, term_in_full, utility_in_full, verdict_in_full, judged_in_full, decision_in_full}
use Rattle.demands.specs.Allowance.{decision_in_full_at, wins_in_full}
use Rattle.demands.proofs.{Integers.at_most_tests, Terms.difference_rises}

-- ---- what was, stays: a policy without an allowance

-- an allowance of 0 is none
module _ (p : PolicySnapshot) (e : p.latency_allowance_ms ≡ 0) where
  -- The latency term is document 01's
  pub none_is : (m : KernelModel) → latency_term_of p m ≡ term_in_full p m
  unfolding latency_term_of charged_ms term_in_full
  none_is m = let all : m.p95_latency_ms - p.latency_allowance_ms ≡ m.p95_latency_ms = omega arith in rw all

  -- So are the utility, and what a record is told
  pub none-worth : (m : KernelModel) (q : KernelInput) (cost : ℕ) → utility_of p m q cost ≡ utility_in_full p m q cost
  unfolding utility_of exact_utility_of utility_in_full
  none-worth m q cost = rw (none_is m)

  pub none_told : (q : KernelInput) (m : KernelModel) (cost : ℕ) → verdict_costing p q m cost ≡ verdict_in_full p q m cost
  unfolding verdict_costing verdict_in_full by_utility
  none_told q m cost = rw (none_is m, none-worth m q cost)

  -- So are what the records of a list are told, and with it counts, explanation and single utilities; and the decision
  pub none-judges : (costs : Cost) (q : KernelInput) (ls : List Listed) → judged_by costs p q ls ≡ judged_in_full costs p q ls
  none-judges costs q [] = refl
  none-judges costs q (l ∷ ls) = rw (none_told q l.model (costs l.model q), none-judges costs q ls)

  pub none-decides : (costs : Cost) (q : KernelInput) (ls : List Listed) → decision_by costs p q ls ≡ decision_in_full costs p q ls
  unfolding decision_by decision_in_full
  none-decides costs q ls = rw (none-judges costs q ls)

-- So are both boundaries: at every setting of every lever the decision is by document 01's term, and with it whether the id is selected there, and by
-- these alone boundaries are searched
module _ (a : Question) (e : a.policy.latency_allowance_ms ≡ 0) (lever v : ℕ) where
  pub none-decides-at : decision_at a lever v ≡ decision_in_full_at a lever v
  unfolding decision_at
  none-decides-at = none-decides a.policy e a.costs a.request _

  pub none-wins : wins a lever v ≡ wins_in_full a lever v
  unfolding wins
  none-wins = ap (selects a.id) none-decides-at

-- A policy of 31 bytes, or fewer, has no allowance; so has one of 30
pub thirty_one_say_none : (s : List ℕ) → length s ≤ 31 → (policy_of s).latency_allowance_ms ≡ 0
unfolding policy_of policy_with number
thirty_one_say_none s h = rw (drop_of_length-le s h)

pub thirty_say_none : (s : List ℕ) → length s ≤ 30 → (policy_of s).latency_allowance_ms ≡ 0
thirty_say_none s h = thirty_one_say_none s (omega arith)

-- ---- with an allowance

module _ (p : PolicySnapshot) (m : KernelModel) where
  -- Up to the allowance nothing is charged
  pub free-up-to : m.p95_latency_ms ≤ p.latency_allowance_ms → latency_term_of p m ≡ 0
  unfolding latency_term_of charged_ms
  free-up-to h = let none : m.p95_latency_ms - p.latency_allowance_ms ≡ 0 = omega arith in rw none (omega arith)

  -- So many milliseconds above it: those are charged, each by the penalty
  pub charged-above : (above : ℕ) → m.p95_latency_ms ≡ p.latency_allowance_ms + above
      → latency_term_of p m ≡ above * p.latency_penalty_microunits_per_ms
  unfolding latency_term_of charged_ms
  charged-above above h = let charged : m.p95_latency_ms - p.latency_allowance_ms ≡ above = omega arith in rw charged

  -- An allowance never raises the term
  pub at-most-in-full : latency_term_of p m ≤ term_in_full p m
  unfolding latency_term_of charged_ms term_in_full
  at-most-in-full = mul-le-mul_right p.latency_penalty_microunits_per_ms (omega arith)

module _ (p : PolicySnapshot) (less more : ℕ) (h : less ≤ more) where
  -- Of two allowances the higher charges no more
  more-free-less-charged : (m : KernelModel) → latency_term_of (with_allowance more p) m ≤ latency_term_of (with_allowance less p) m
  unfolding latency_term_of charged_ms
  more-free-less-charged m = mul-le-mul_right p.latency_penalty_microunits_per_ms (omega arith)

  -- A HIGHER ALLOWANCE NEVER LOWERS A UTILITY
  pub more-free-more-worth : NowhereWorthLess (with_allowance more p) (with_allowance less p)
  unfolding utility_of exact_utility_of risk_term_of
  more-free-more-worth m q cost =
      at_most_tests (utility_of (with_allowance less p) m q cost) (utility_of (with_allowance more p) m q cost)
      (difference_rises (quality_term_of m q) (quality_term_of m q) (risk_term_of p q) cost cost (latency_term_of (with_allowance less p) m)
      (latency_term_of (with_allowance more p) m) (le_refl _) (le_refl _) (more-free-less-charged m))
