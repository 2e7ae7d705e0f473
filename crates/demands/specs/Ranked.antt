-- What the theorems say of ranked candidates, of their places, of a decision for the first of them, and of a reason.
use Rattle.std.specs.Prelude.{ℕ, ◌≤◌, ◌<◌, ◌≡◌, true, List, ◌∷◌, ◌++◌, eqb}
use Rattle.rules.specs.Order.{Each, Pairs}
use Rattle.rules.specs.Records.{listed_of}
use Rattle.rules.specs.Numbers.{Decision}
use Rattle.rules.specs.Verdict.{Judged, judged}
use Rattle.rules.specs.Slots.{live_in}
use Rattle.rules.specs.Rank.{Candidate, better}
use Rattle.rules.specs.Count.{Weight}
use Rattle.rules.specs.Decide.{counterfactual_id, counterfactual_worth}
use Rattle.rules.specs.declared.records.KernelInput.{KernelInput}
use Rattle.rules.specs.declared.records.PolicySnapshot.{PolicySnapshot}
use Rattle.demands.specs.Lists.{Rising, Different, many}

-- One is better than another; each is better than every one after it
abbrev pub Beats : Candidate → Candidate → Type 0
Beats a b = better a b ≡ true

abbrev pub InStrictOrder : List Candidate → Type 0
InStrictOrder cs = Pairs Beats cs

-- The judged records of a bank, and its judged live ones
abbrev pub judged_of : PolicySnapshot → KernelInput → List ℕ → List Judged
judged_of p q bank = judged p q (listed_of bank)

abbrev pub judged_live : PolicySnapshot → KernelInput → List ℕ → List Judged
judged_live p q bank = judged p q (live_in bank)

-- The places of judged records rise, as those of a bank do, or are at least all different
abbrev pub PlacesRise : List Judged → Type 0
PlacesRise js = Rising (λ j. j.listed.place) js

abbrev pub PlacesDiffer : List Judged → Type 0
PlacesDiffer js = Different (λ j. j.listed.place) js

-- How many candidates have a place
abbrev pub many_at : ℕ → List Candidate → ℕ
many_at place cs = many (λ c. eqb c.place place) cs

-- A decision whose model, place, cost and utility are c's; the counterfactual and its utility are those of the first of the rest, 0 and 0
-- if there is none
pub record DecidedFor (d : Decision) (c : Candidate) (rest : List Candidate) : Type 0 where
  pub model : d.model ≡ c.id
  pub place : d.place ≡ c.place
  pub cost : d.cost ≡ c.cost
  pub utility : d.utility ≡ c.utility
  pub counterfactual : d.counterfactual ≡ counterfactual_id rest
  pub counterfactual_utility : d.counterfactual_utility ≡ counterfactual_worth rest

-- w is the last of the largest: none before it has a larger count, every one after it has a smaller one
pub record LastLargest (w : Weight) (ws : List Weight) : Type 0 where
  pub before : List Weight
  pub after : List Weight
  pub whole : ws ≡ before ++ w ∷ after
  pub none_larger : Each (λ v. v.count ≤ w.count) before
  pub all_smaller : Each (λ v. v.count < w.count) after
