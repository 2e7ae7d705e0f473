-- What a scan holds comes to the rules' decision. Assumes nothing.
use Rattle.rules.proofs.Kit.{ℕ, suc, ◌+◌, ◌^◌, arith, ◌≡◌, refl, sym, ap, ◌∙◌, List, [], ◌∷◌, ℤ, pos, negsuc, length, length-map}
use Rattle.rules.specs.{Choice.equal, Records.Listed, Verdict.Judged, Verdict.judge, Verdict.judged, Rank.Candidate, Rank.better, Rank.eligibles, Rank.ranking}
use Rattle.rules.specs.{Count.counts_of, Decide.chosen, Decide.by_ranking, Decide.by_verdicts, declared.records.KernelInput.KernelInput}
use Rattle.rules.specs.{declared.records.PolicySnapshot.PolicySnapshot}
use Rattle.rules.proofs.{Choices.equal-no, Sorted.sorted-length}
use Rattle.pricing_terms.specs.Score.{scored, unscored}
use Rattle.pricing_terms.proofs.Scores.{unscored_above}
use Rattle.kernel_ranking.specs.State.{held_of, nobody, top_of, state_of}
use Rattle.kernel_decide.specs.Decide.{chosen_from, decision_of_scan}
use Rattle.kernel_ranking.proofs.{Orders.Positive, Ranking.AllPositive, States.ranking-holds}

-- A score tells its utility
unscored_at : (n : ℕ) → unscored (2 ^ 63 + n) ≡ pos n
unscored_at n = unscored_above (2 ^ 63 + n) (omega arith) ∙ ap pos (omega arith)

pub score_back : (u : ℤ) → Positive u → unscored (scored u) ≡ u
unfolding scored
score_back (pos n) h = unscored_at n
score_back (negsuc n) h = absurd h

-- A ranking has as many as are eligible
ranking-length : (js : List Judged) → length (eligibles js) ≡ length (ranking js)
unfolding ranking
ranking-length js = sym (sorted-length better (eligibles js))

module _ (p : PolicySnapshot) (q : KernelInput) where
  -- the first two of a ranking, with what else is held, come to the decision by that ranking
  by-top : (js : List Judged) (cs : List Candidate) → AllPositive cs
      → decision_of_scan p q (record { counts = counts_of js; top = top_of cs; eligible = length cs }) (length js) ≡ by_ranking p q js cs
  unfolding decision_of_scan chosen_from chosen held_of nobody equal
  by-top js [] a = refl
  by-top js (x ∷ []) a = rw (score_back x.utility a.0, unscored_at 0)
  by-top js (x ∷ y ∷ zs) a =
      equal-no (suc (suc (length zs))) 0 _ _ (λ e. omega arith) ∙ rw (score_back x.utility a.0, score_back y.utility a.1.0)

  -- THE STATE AFTER ALL RECORDS COMES TO THE DECISION
  pub state-decides : (ls : List Listed) → decision_of_scan p q (state_of (judged p q ls)) (length ls) ≡ by_verdicts p q (judged p q ls)
  unfolding state_of by_verdicts
  state-decides ls =
      let js = judged p q ls in
      rw (ranking-length js, ← length-map ls (judge p q)) (by-top js (ranking js) (ranking-holds p q ls).0)
