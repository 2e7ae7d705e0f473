-- What the searches ask, what wins then, and when it is what the rules say of a bank.
use Rattle.std.specs.Prelude.{ℕ, ◌≤◌, ◌≡◌, Bool, List, []}
use Rattle.std.proofs.Math.Option.{some}
use Rattle.rules.specs.Records.{listed_of, model_at}
use Rattle.rules.specs.Refused.{bank_faults}
use Rattle.rules.specs.Listing.{first_listed, place_of}
use Rattle.rules.specs.Price.{cost_under}
use Rattle.rules.specs.Decide.{stopped_by}
use Rattle.rules.specs.Levers.{lever_at, Question}
use Rattle.rules.specs.declared.records.KernelModel.{KernelModel}
use Rattle.rules.specs.declared.records.KernelInput.{KernelInput}
use Rattle.rules.specs.declared.records.PolicySnapshot.{PolicySnapshot}
use Rattle.pricing.specs.Pricing.{pricing_of}
use Rattle.pricing.specs.declared.Pricing.{Pricing}
use Rattle.kernel_verdict.specs.declared.Candidate.{Candidate}
use Rattle.kernel_ranking.specs.declared.state.Top.{Top}
use Rattle.counterfactual_others.specs.Others.{without_place, best_of, others_of, best_with, has_id}
use Rattle.counterfactual_lever.specs.Lever.{widest}
use Rattle.counterfactual_pass.specs.declared.pass.Asked.{Asked}

-- The model at a place of a bank, asked about under an id, with what the others offer by the best two of all
abbrev pub asked_from : PolicySnapshot → KernelInput → List ℕ → ℕ → ℕ → Top → Asked
asked_from p q bank id place top =
    record { policy = p; input = q; id = id; place = place; model = model_at bank place; rival = others_of top place }

-- W2. The model with a lever at a value wins where the better of it and its rival has the id
unfoldable pub wins_by : Pricing → KernelInput → KernelModel → ℕ → ℕ → Candidate → ℕ → ℕ → Bool
wins_by pr q m place id rival lever v = has_id id (best_with pr q rival place (lever_at lever v m))

unfoldable pub wins_in : Asked → ℕ → ℕ → Bool
wins_in k lever v =
    wins_by (pricing_of k.policy k.input) k.input k.model k.place k.id k.rival lever v

-- The question over a bank's list
unfoldable pub question_in : Asked → List ℕ → Question
question_in k bank =
    record { costs = cost_under k.policy; policy = k.policy; request = k.input; list = listed_of bank; id = k.id; model = k.model }

-- R1. The place is that of the first listed record with the id, in a bank that isn't refused; the request isn't stopped; the rival is the best of
-- the others
pub record Stands (k : Asked) (bank : List ℕ) : Type 0 where
  pub first : place_of (first_listed k.id (listed_of bank)) ≡ some k.place
  pub whole : bank_faults bank ≡ []
  pub free : stopped_by k.policy k.input ≡ 0
  pub best : k.rival ≡ best_of k.policy k.input (without_place k.place (listed_of bank))

-- And the lever's field holds every value up to this one
pub record Asks (k : Asked) (bank : List ℕ) (lever high : ℕ) : Type 0 where
  pub stands : Stands k bank
  pub fits : high ≤ widest lever
