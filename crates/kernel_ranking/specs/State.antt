-- What a scan holds, as the rules say it, and one record more as the code takes it.
use Rattle.std.specs.Prelude.{◌+◌, ◌^◌, Bool, false, cond, List, [], ◌∷◌, length}
use Rattle.rules.specs.Limits.{no_place}
use Rattle.rules.specs.Choice.{lower}
use Rattle.rules.specs.Verdict.{Judged}
use Rattle.rules.specs.Rank as rank
use Rattle.rules.specs.Count.{counts_of}
use Rattle.pricing_terms.specs.Score.{scored}
use Rattle.kernel_verdict.specs.declared.Candidate.{Candidate}
use Rattle.kernel_ranking.specs.declared.state.Top.{Top}
use Rattle.kernel_ranking.specs.declared.state.State.{State}

-- A candidate of the rules as the scan holds it
unfoldable pub held_of : rank.Candidate → Candidate
held_of c =
    record {
      model_id = c.id;
      model_index = c.place;
      quality_bps = c.quality;
      cost = c.cost;
      score = scored c.utility;
    }

-- Nobody: what a rejection shows, and below every eligible model
unfoldable pub nobody : Candidate
nobody = record { model_id = 0; model_index = no_place; quality_bps = 0; cost = 0; score = 2 ^ 63 }

abbrev pub top_two : Candidate → Candidate → Top
top_two best second = record { best = best; second = second }

-- D22. The first two of a ranking
abbrev pub top_of : List rank.Candidate → Top
top_of [] = top_two nobody nobody
top_of (x ∷ []) = top_two (held_of x) nobody
top_of (x ∷ y ∷ zs) = top_two (held_of x) (held_of y)

-- What the records judged so far come to
unfoldable pub state_of : List Judged → State
state_of js = record { counts = counts_of js; top = top_of (rank.ranking js); eligible = length (rank.eligibles js) }

-- ---- one record more

-- D22. Higher score, lower cost, higher quality, lower id, earlier place
unfoldable pub earlier_of : Candidate → Candidate → Bool
earlier_of a b = lower a.model_id b.model_id (lower a.model_index b.model_index false)

unfoldable pub cheaper_of : Candidate → Candidate → Bool
cheaper_of a b = lower a.cost b.cost (lower b.quality_bps a.quality_bps (earlier_of a b))

unfoldable pub better_of : Candidate → Candidate → Bool
better_of a b = lower b.score a.score (cheaper_of a b)

-- The second place first: most candidates end there
unfoldable pub ranked_of : Top → Candidate → Top
ranked_of t c =
    cond (better_of c t.second) (cond (better_of c t.best) (top_two c t.best) (top_two t.best c)) t

-- The state with one record more that is eligible
unfoldable pub state_entered : State → Candidate → State
state_entered s c = record { counts = s.counts; top = ranked_of s.top c; eligible = s.eligible + 1 }

-- The state before the first record
abbrev pub start_of : State
start_of = state_of []
