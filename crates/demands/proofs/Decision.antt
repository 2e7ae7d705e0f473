-- The decision's two are the first two of the ranking, by any rule of cost, and of a bank they beat all others. Assumes nothing.
use Rattle.rules.proofs.Kit.{ℕ, ◌≡◌, refl, ◌∙◌, ◌⊎◌, List, [], ◌∷◌, length}
use Rattle.rules.specs.{Order.Each, Records.Listed, Price.Cost, Verdict.judged_by, Rank.Candidate, Rank.eligibles, Rank.ranking, Count.counts_of}
use Rattle.rules.specs.{Count.dominant_of, Decide.stopped_by, Decide.rejection, Decide.chosen, Decide.by_verdicts, Decide.decision_by}
use Rattle.rules.specs.{declared.records.KernelInput.KernelInput, declared.records.PolicySnapshot.PolicySnapshot}
use Rattle.rules.proofs.Stopped.{unstopped}
use Rattle.demands.specs.Ranked.{Beats, judged_of, DecidedFor}
use Rattle.demands.proofs.Places.{judged_different, first-beats-all, second-beats-others}

module _ (costs : Cost) (p : PolicySnapshot) (q : KernelInput) (ls : List Listed) (runs_on : stopped_by p q ≡ 0) where
  pub chosen_is : (c : Candidate) (rest : List Candidate) → ranking (judged_by costs p q ls) ≡ c ∷ rest
      → decision_by costs p q ls ≡ chosen p q (length (judged_by costs p q ls)) c rest
  unfolding by_verdicts
  chosen_is c rest e = unstopped costs p q ls runs_on ∙ rw e

  -- Demand 2. A request that no limit stops is decided for the first of the ranking, at its place, cost and utility; the counterfactual
  -- is the second, with its utility, 0 and 0 if there is none
  pub decided-by-first-two : (c : Candidate) (rest : List Candidate) → ranking (judged_by costs p q ls) ≡ c ∷ rest → DecidedFor (decision_by costs p q ls) c rest
  unfolding chosen
  decided-by-first-two c rest e =
      rw (chosen_is c rest e)
      (record { model = refl; place = refl; cost = refl; utility = refl; counterfactual = refl; counterfactual_utility = refl })

  -- Demand 2. Where the ranking is empty it is rejected, with the reason of the largest count
  pub rejected-where-none : ranking (judged_by costs p q ls) ≡ []
      → decision_by costs p q ls ≡ rejection p q (dominant_of (counts_of (judged_by costs p q ls))) (length (judged_by costs p q ls))
  unfolding by_verdicts
  rejected-where-none e = unstopped costs p q ls runs_on ∙ rw e

module _ (p : PolicySnapshot) (q : KernelInput) (bank : List ℕ) where
  -- Demand 2. Of a bank, the chosen model is better than every other eligible one
  pub chosen-beats-all : (c : Candidate) (rest : List Candidate) → ranking (judged_of p q bank) ≡ c ∷ rest
      → Each (λ x. (x ≡ c) ⊎ Beats c x) (eligibles (judged_of p q bank))
  chosen-beats-all = first-beats-all (judged_of p q bank) (judged_different p q bank)

  -- Demand 2. Of a bank, the counterfactual is better than every eligible one but itself and the chosen one
  pub counterfactual-beats-others : (c d : Candidate) (rest : List Candidate) → ranking (judged_of p q bank) ≡ c ∷ d ∷ rest
      → Each (λ x. (x ≡ c) ⊎ (x ≡ d) ⊎ Beats d x) (eligibles (judged_of p q bank))
  counterfactual-beats-others = second-beats-others (judged_of p q bank) (judged_different p q bank)
