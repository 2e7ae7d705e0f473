-- What the other records offer, and one model against the best of them.
use Rattle.std.specs.Prelude.{ℕ, ◌+◌, ◌^◌, Bool, cond, ◌&&◌, List, ◌++◌, ltb, eqb, take, drop}
use Rattle.rules.specs.Choice.{equal}
use Rattle.rules.specs.Records.{Listed}
use Rattle.rules.specs.Verdict.{judged}
use Rattle.rules.specs.Rank.{ranking}
use Rattle.rules.specs.declared.records.KernelModel.{KernelModel}
use Rattle.rules.specs.declared.records.KernelInput.{KernelInput}
use Rattle.rules.specs.declared.records.PolicySnapshot.{PolicySnapshot}
use Rattle.pricing.specs.declared.Pricing.{Pricing}
use Rattle.kernel_ranking.specs.State.{top_of, better_of}
use Rattle.kernel_verdict.specs.Verdict.{verdict_in, entering_of}
use Rattle.kernel_verdict.specs.declared.Candidate.{Candidate}
use Rattle.kernel_verdict.specs.declared.Verdict.{Verdict}
use Rattle.kernel_verdict.specs.declared.Verdict.TheVariants.{Rejected, OverBudget, NonPositive, Eligible}
use Rattle.kernel_ranking.specs.declared.state.Top.{Top}

-- The list without what stands at a place
unfoldable pub without_place : ℕ → List Listed → List Listed
without_place place ls = take place ls ++ drop (place + 1) ls

-- D22. The first of a list's ranking, `nobody` where none is eligible
unfoldable pub best_of : PolicySnapshot → KernelInput → List Listed → Candidate
best_of p q ls = (top_of (ranking (judged p q ls))).best

-- The best of the others, by the first two of all: the second where the first has the place
unfoldable pub others_of : Top → ℕ → Candidate
others_of t place = equal t.best.model_index place t.second t.best

-- A model that was told so, against a rival: an eligible one is compared, any other one leaves the rival as it is
unfoldable pub against : Candidate → ℕ → KernelModel → Verdict → Candidate
against rival place m (Rejected gate) = rival
against rival place m (OverBudget cost) = rival
against rival place m (NonPositive t) = rival
against rival place m (Eligible t) = cond (better_of (entering_of m place t) rival) (entering_of m place t) rival

unfoldable pub best_with : Pricing → KernelInput → Candidate → ℕ → KernelModel → Candidate
best_with pr q rival place m = against rival place m (verdict_in pr q m)

-- W2. The candidate is somebody, and has the id: nobody's score is that of 0, and 0 is an id like any other
unfoldable pub has_id : ℕ → Candidate → Bool
has_id id c = ltb (2 ^ 63) c.score && eqb c.model_id id
