-- Ranking, choice and reasons at document 01's example. Model 2 stands in the bank twice, so that its two records are level but for their
-- places. Assumes nothing.
use Rattle.rules.proofs.Kit.{ℕ, ◌≡◌, refl, ap, subst, ◌∙◌, List, [], ◌∷◌, ◌++◌, some, pos}
use Rattle.rules.proofs.{Opened.rules, Example.model_two, Example.bank, Example.counts}
use Rattle.rules.specs.{Choice.below, Choice.lower, Choice.higher, Order.sorted_by, Records.listed_of, Price.cost_under, Verdict.Judged, Rank.Candidate}
use Rattle.rules.specs.{Rank.better, Rank.eligibles, Rank.ranking, Count.Weight, Count.weights, Count.heavier, Count.dominant_of, Decide.decision_of}
use Rattle.demands.specs.{Ranked.InStrictOrder, Ranked.judged_of, Ranked.DecidedFor, Ranked.LastLargest, Keeping.better_in_rust, Keeping.two, Keeping.turn}
use Rattle.demands.specs.{Keeping.kept_in_rust, Keeping.first_two}
use Rattle.demands.proofs.{Places.judged_different, Places.ranking_strict, Decision.decided-by-first-two, Keeping.rust_keeps_of_bank}
use Rattle.demands.proofs.{Dominant.dominant_last_largest, BoundariesExample.p, BoundariesExample.q, BoundariesExample.goes_on}

abbrev three : List ℕ
three = bank ++ model_two

abbrev js : List Judged
js = judged_of p q three

-- model 2 at places 1 and 2, and model 1
abbrev best : Candidate
best = record { utility = pos 6200; cost = 300; quality = 8000; id = 2; place = 1 }

abbrev twin : Candidate
twin = record { utility = pos 6200; cost = 300; quality = 8000; id = 2; place = 2 }

abbrev one : Candidate
one = record { utility = pos 5200; cost = 1800; quality = 9000; id = 1; place = 0 }

ranked : ranking js ≡ best ∷ twin ∷ one ∷ []
unfolding rules
ranked = refl

decided : DecidedFor (decision_of p q (listed_of three)) best (twin ∷ one ∷ [])
decided = decided-by-first-two (cost_under p) p q (listed_of three) goes_on best (twin ∷ one ∷ []) ranked

strict : InStrictOrder (best ∷ twin ∷ one ∷ [])
strict = subst InStrictOrder ranked (ranking_strict js (judged_different p q three))

-- ---- the Rust's loop keeps both records of model 2, the earlier one first

kept : kept_in_rust (eligibles js) ≡ two (some best) (some twin)
kept = rust_keeps_of_bank p q three ∙ ap first_two ranked

-- by computation: the old best becomes the second, a better second replaces it, and of two that are level the lower id is first
abbrev other : Candidate
other = record { utility = pos 6200; cost = 300; quality = 8000; id = 3; place = 0 }

kept_by_computation : (kept_in_rust (one ∷ best ∷ []) ≡ two (some best) (some one)) × (kept_in_rust (one ∷ best ∷ twin ∷ []) ≡ two (some best) (some twin))
    × (kept_in_rust (other ∷ best ∷ []) ≡ two (some best) (some other))
unfolding kept_in_rust turn better_in_rust
kept_by_computation = (refl, refl, refl)

-- where places don't rise it would keep the first that it meets
fallen : (kept_in_rust (twin ∷ best ∷ []) ≡ two (some twin) (some best)) × (first_two (sorted_by better (twin ∷ best ∷ [])) ≡ two (some best) (some twin))
unfolding kept_in_rust turn better_in_rust better lower higher
fallen = (refl, refl)

-- ---- reasons: one record for capability, one switched off, and disabled is the last

tied : (w : Weight) × LastLargest w (weights (counts 1 0 0 0 1 0 0 0 0)) × (102 ≡ w.reason)
unfolding dominant_of heavier below
tied = dominant_last_largest (counts 1 0 0 0 1 0 0 0 0)
