-- Rows beyond document 01's on each key of the ranking, one after the other, and on the clamps. Assumes nothing.
use Rattle.rules.proofs.Kit.{ℕ, ◌-◌, ◌^◌, refl, List, [], ◌∷◌, ◌++◌, ℤ, pos, negsuc, replicate}
use Rattle.rules.specs.{Records.model_of, Records.input_of, Records.policy_of, Price.cost_of, Price.scaled_price, Utility.held, Verdict.verdict_of}
use Rattle.rules.specs.{Order.sorted_by, Rank.Candidate, Rank.better}
use Rattle.rules.specs.declared.records.Rounding.TheVariants.{Apart}
use Rattle.rules.proofs.{Opened.rules, Rows.Row, Rows.says, Rows.decided, Example.bank, Example.model_one, Example.model_two}
use Rattle.rules.proofs.{Example.policy, Example.request, Example.with, Example.decision, Example.rejected, Example.counts, Example.no_counts}
use Rattle.rules.proofs.{Example.counted}

abbrev candidate : ℤ → ℕ → ℕ → ℕ → ℕ → Candidate
candidate utility cost quality id place = record { utility = utility; cost = cost; quality = quality; id = id; place = place }

-- the example's request with value 1, no risk, no tokens and no minimum quality
abbrev worth_one : List ℕ
worth_one = with 12 (replicate 8 0) (with 20 (1 ∷ 0 ∷ []) (with 36 (0 ∷ 0 ∷ []) (with 40 (0 ∷ 0 ∷ []) request)))

rank_rows : List Row
unfolding rules
rank_rows =
    says "the five keys, one after the other"
    (sorted_by better
    (candidate (negsuc 0) 0 9 0 0
    ∷ candidate (pos 5) 3 9 1 1
    ∷ candidate (pos 5) 2 7 1 2
    ∷ candidate (pos 5) 2 8 4 6
    ∷ candidate (pos 5) 2 8 3 5
    ∷ candidate (pos 5) 2 8 3 4
    ∷ candidate (pos 6) 9 0 9 7
    ∷ []))
    (candidate (pos 6) 9 0 9 7
    ∷ candidate (pos 5) 2 8 3 4
    ∷ candidate (pos 5) 2 8 3 5
    ∷ candidate (pos 5) 2 8 4 6
    ∷ candidate (pos 5) 2 7 1 2
    ∷ candidate (pos 5) 3 9 1 1
    ∷ candidate (negsuc 0) 0 9 0 0
    ∷ [])
    refl
    ∷ says "2 ^ 63 is held" (held (pos (2 ^ 63))) (pos (2 ^ 63 - 1)) refl
    ∷ says "2 ^ 63 - 1 stands" (held (pos (2 ^ 63 - 1))) (pos (2 ^ 63 - 1)) refl
    ∷ says "-2 ^ 63 - 1 is held" (held (negsuc (2 ^ 63))) (negsuc (2 ^ 63 - 1)) refl
    ∷ says "-2 ^ 63 stands" (held (negsuc (2 ^ 63 - 1))) (negsuc (2 ^ 63 - 1)) refl
    ∷ says "a cost is held at 2 ^ 64 - 1: the highest price for 2 ^ 32 - 1 tokens"
    (cost_of Apart (model_of (with 31 (replicate 8 255) model_one)) (input_of (with 12 (replicate 4 255) request)))
    (2 ^ 64 - 1)
    refl
    ∷ says "the highest price at a scale of one stands" (scaled_price (2 ^ 64 - 1) 1000000) (2 ^ 64 - 1) refl
    ∷ says "the highest price at the next scale is held" (scaled_price (2 ^ 64 - 1) 1000001) (2 ^ 64 - 1) refl
    ∷ says "a scaled price is rounded down" (scaled_price 3 999999) 2 refl
    ∷ says "a utility of 1 is positive"
    (verdict_of (policy_of (with 20 (replicate 10 0) policy)) (input_of worth_one) (model_of (with 6 (16 ∷ 39 ∷ []) model_one))).kind
    4
    refl
    -- 1,800 for quality, less 1,000 for risk, 300 for cost and 500 for latency
    ∷ says "a utility of 0 isn't"
    (verdict_of (policy_of policy) (input_of (with 40 (0 ∷ 0 ∷ []) request)) (model_of (with 6 (8 ∷ 7 ∷ []) model_two))).kind
    3
    refl
    ∷ says "a value of -10,000 counts as 0" (decided bank policy (with 20 (240 ∷ 216 ∷ replicate 6 255) request))
    (counted (rejected 109 2) (counts 0 0 0 0 0 0 0 0 2))
    refl
    ∷ says "three utilities held at 2 ^ 63 - 1: the cost decides"
    (decided
    (with 6 (255 ∷ 255 ∷ []) model_one ++ with 6 (254 ∷ 255 ∷ []) model_two ++ with 0 (3 ∷ []) (with 6 (255 ∷ 255 ∷ []) (with 31 (replicate 8 0) model_one)))
    policy
    (with 20 (replicate 7 255 ++ 127 ∷ []) (with 38 (255 ∷ 255 ∷ []) request)))
    (counted (decision 42 2 2 2 1 300 (pos 9223372036854775807) 3 (pos 9223372036854775807) 3 3 7 3) no_counts)
    refl
    ∷ []
