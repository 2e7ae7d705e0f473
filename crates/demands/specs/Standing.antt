-- What makes one model do as well as another in its place, when a record is chosen, and what it is for ids to be unique; all of it by any rule of
-- cost.
use Rattle.std.specs.Prelude.{ℕ, ◌≤◌, ◌≡◌, false}
use mathlib.Core.List.{List, Memᴰ}
use Rattle.rules.specs.Order.{Each}
use Rattle.rules.specs.Records.{Listed, listed}
use Rattle.rules.specs.Price.{Cost}
use Rattle.rules.specs.Verdict.{verdict_costing, judge_by}
use Rattle.rules.specs.Rank.{Candidate, candidate_of, better}
use Rattle.rules.specs.Halving.{Side}
use Rattle.rules.specs.Levers.{lever_at}
use Rattle.rules.specs.declared.records.KernelModel.{KernelModel}
use Rattle.rules.specs.declared.records.KernelInput.{KernelInput}
use Rattle.rules.specs.declared.records.PolicySnapshot.{PolicySnapshot}
use Rattle.demands.specs.Lists.{Different}
use Rattle.demands.specs.Exact.{AtOrBetter}

-- A rule of cost that doesn't fall where prices rise: for any request, a model costs no more than one that has neither price lower
abbrev pub RisesWithPrices : Cost → Type 0
RisesWithPrices costs =
    (q : KernelInput) (y x : KernelModel) → y.input_cost_microunits_per_million_tokens ≤ x.input_cost_microunits_per_million_tokens
    → y.output_cost_microunits_per_million_tokens ≤ x.output_cost_microunits_per_million_tokens
    → costs y q ≤ costs x q

-- Verdict 4
abbrev pub Eligible : Cost → PolicySnapshot → KernelInput → KernelModel → Type 0
Eligible costs p q m = (verdict_costing p q m (costs m q)).kind ≡ 4

-- What a model is ranked by where it stands at a place
abbrev pub candidate_at : Cost → PolicySnapshot → KernelInput → ℕ → KernelModel → Candidate
candidate_at costs p q place m = candidate_of (judge_by costs p q (listed place m))

-- y does as well as x: it has x's id, is eligible where x is, and then x does not rank before it in the same place
pub record AsGood (costs : Cost) (p : PolicySnapshot) (q : KernelInput) (y x : KernelModel) : Type 0 where
  pub id : y.model_id ≡ x.model_id
  pub eligible : Eligible costs p q x → Eligible costs p q y
  pub not_after : Eligible costs p q x → (place : ℕ) → better (candidate_at costs p q place x) (candidate_at costs p q place y) ≡ false

-- y is x but for what a lever moves, and no field is less favourable: quality and ceiling not lower, latency and prices not higher
pub record Favours (y x : KernelModel) : Type 0 where
  pub id : y.model_id ≡ x.model_id
  pub provider : y.provider_id ≡ x.provider_id
  pub quality : x.quality_bps ≤ y.quality_bps
  pub ceiling : x.risk_ceiling_bps ≤ y.risk_ceiling_bps
  pub enabled : y.enabled ≡ x.enabled
  pub latency : y.p95_latency_ms ≤ x.p95_latency_ms
  pub capabilities : y.capabilities ≡ x.capabilities
  pub regions : y.region_mask ≡ x.region_mask
  pub input_price : y.input_cost_microunits_per_million_tokens ≤ x.input_cost_microunits_per_million_tokens
  pub output_price : y.output_cost_microunits_per_million_tokens ≤ x.output_cost_microunits_per_million_tokens

-- A lever's settings are ordered: a more favourable one makes a model that is nowhere less favourable
abbrev pub Ordered : ℕ → Side → Type 0
Ordered lever side = (m : KernelModel) (u v : ℕ) → AtOrBetter side u v → Favours (lever_at lever v m) (lever_at lever u m)

-- A record of a list is chosen: it is eligible, and no eligible one ranks before it
pub record Chosen (costs : Cost) (p : PolicySnapshot) (q : KernelInput) (ls : List Listed) (l : Listed) : Type 0 where
  pub member : Memᴰ l ls
  pub eligible : Eligible costs p q l.model
  pub first : (k : Listed) → Memᴰ k ls → Eligible costs p q k.model
      → better (candidate_of (judge_by costs p q k)) (candidate_of (judge_by costs p q l)) ≡ false

-- No record of a list has an id
abbrev pub Lacks : ℕ → List Listed → Type 0
Lacks id ls = Each (λ l. l.model.model_id ≡ id → ⊥) ls

-- No two records of a list have the same id
abbrev pub UniqueIds : List Listed → Type 0
UniqueIds ls = Different (λ l. l.model.model_id) ls
