-- The ranking is the eligible models, each once; that it is in order is `ranking_in_order` of the rules. Assumes nothing.
use Rattle.rules.proofs.Kit.{◌≡◌, Bool, List, List-as-Permᴰ}
use Rattle.rules.specs.{Verdict.Judged, Rank.Candidate, Rank.better, Rank.eligibles, Rank.ranking}
use Rattle.rules.proofs.Sorted.{sorted-permutes}
use Rattle.demands.specs.Lists.{many}
use Rattle.demands.proofs.Lists.{many-moved}

-- Demand 2. The ranking is a permutation of the eligible models
pub ranking_permutes : (js : List Judged) → List-as-Permᴰ (ranking js) (eligibles js)
unfolding ranking
ranking_permutes js = sorted-permutes better (eligibles js)

-- Demand 2. So of whatever kind one asks, as many stand in the ranking as are eligible
pub ranking_counts : (test : Candidate → Bool) (js : List Judged) → many test (ranking js) ≡ many test (eligibles js)
ranking_counts test js = many-moved test (ranking_permutes js)
