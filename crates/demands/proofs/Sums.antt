-- The nine counts and the eligible models make up the evaluated ones, whatever the request. Assumes nothing.
use Rattle.rules.proofs.Kit.{ℕ, suc, ◌+◌, ◌≡◌, refl, sym, ap, ◌∙◌, Bool, true, false, cond, List, [], ◌∷◌, add-one, ltb, length}
use Rattle.rules.specs.{Choice.below, Records.Listed, Verdict.Judged, Verdict.judged, Rank.Candidate, Rank.eligibles, Rank.ranking, Count.no_counts}
use Rattle.rules.specs.{Count.counts_of, Count.total, Decide.stopped_by, Decide.rejection, Decide.chosen, Decide.by_ranking, Decide.by_verdicts}
use Rattle.rules.specs.{Decide.decision_by}
use Rattle.rules.specs.{Decide.decision_of, Decide.counts_in, declared.records.KernelInput.KernelInput, declared.records.PolicySnapshot.PolicySnapshot}
use Rattle.rules.proofs.Counts.{counts_sum}
use Rattle.demands.specs.Lists.{many}
use Rattle.demands.proofs.Ranking.{ranking_counts}

-- all of a list pass the test that always passes
all_pass : {A : Type 0} (xs : List A) → many (λ _. true) xs ≡ length xs
all_pass [] = refl
all_pass (x ∷ xs) = add-one (many (λ _. true) xs) ∙ ap (λ (n : ℕ). suc n) (all_pass xs)

-- so the ranking is as long as the eligible are many
ranking-length : (js : List Judged) → length (ranking js) ≡ length (eligibles js)
ranking-length js = sym (all_pass (ranking js)) ∙ ranking_counts (λ _. true) js ∙ all_pass (eligibles js)

module _ (p : PolicySnapshot) (q : KernelInput) where
  -- what is decided by a ranking has as many eligible as the ranking has, and as many evaluated as were judged
  decided-counts : (js : List Judged) (cs : List Candidate) → ((by_ranking p q js cs).eligible ≡ length cs) × ((by_ranking p q js cs).evaluated ≡ length js)
  unfolding rejection chosen
  decided-counts js [] = (refl, refl)
  decided-counts js (c ∷ cs) = (refl, refl)

  sum_of : (ls : List Listed) → total (counts_of (judged p q ls)) + (by_verdicts p q (judged p q ls)).eligible ≡ (by_verdicts p q (judged p q ls)).evaluated
  unfolding by_verdicts
  sum_of ls =
      let js = judged p q ls in
      let (eligible, evaluated) = decided-counts js (ranking js) in
      rw (eligible, evaluated, ranking-length js) (counts_sum p q ls)

  -- Demand 2. THE NINE COUNTS AND THE ELIGIBLE MODELS MAKE UP THE EVALUATED ONES: for every list of records, stopped requests included
  pub counts-make-up : (ls : List Listed) → total (counts_in p q ls) + (decision_of p q ls).eligible ≡ (decision_of p q ls).evaluated
  unfolding counts_in decision_by rejection below
  counts-make-up ls = go (ltb 0 (stopped_by p q))
    where
      go : (t : Bool) → total (cond t no_counts (counts_of (judged p q ls))) + (cond t (rejection p q (stopped_by p q) 0) (by_verdicts p q (judged p q ls))).eligible
          ≡ (cond t (rejection p q (stopped_by p q) 0) (by_verdicts p q (judged p q ls))).evaluated
      go true = refl
      go false = sum_of ls
