-- Document 01, "Deciding": the ranking of the eligible models.
use Rattle.std.specs.Prelude.{ℕ, Bool, false, List, [], ◌∷◌, ℤ}
use Rattle.rules.specs.Choice.{lower, higher}
use Rattle.rules.specs.Order.{sorted_by}
use Rattle.rules.specs.Numbers.{where_eligible}
use Rattle.rules.specs.Verdict.{Judged}

-- D22. What a model is ranked by
pub record Candidate : Type 0 where
  pub utility : ℤ
  pub cost : ℕ
  pub quality : ℕ
  pub id : ℕ
  pub place : ℕ

abbrev pub candidate_of : Judged → Candidate
candidate_of j = record {
  utility = j.verdict.utility;
  cost = j.verdict.cost;
  quality = j.listed.model.quality_bps;
  id = j.listed.model.model_id;
  place = j.listed.place;
}

-- D22. Higher utility, lower cost, higher quality, lower id, earlier place
unfoldable pub better : Candidate → Candidate → Bool
better a b =
    higher a.utility b.utility
    (lower a.cost b.cost
    (lower b.quality a.quality
    (lower a.id b.id
    (lower a.place b.place false))))

-- An eligible record is kept, any other one left out
abbrev pub keep : Judged → List Candidate → List Candidate
keep j cs = where_eligible j.verdict (candidate_of j ∷ cs) cs

-- D22. The eligible models, as they are listed
abbrev pub eligibles : List Judged → List Candidate
eligibles [] = []
eligibles (j ∷ js) = keep j (eligibles js)

-- D22. The ranking: the better first
unfoldable pub ranking : List Judged → List Candidate
ranking js = sorted_by better (eligibles js)
