-- What a decision selects and costs, by the first of its ranking. Assumes nothing.
use Rattle.rules.proofs.Kit.{ℕ, ◌+◌, ◌^◌, arith, ◌≡◌, refl, sym, ap, ◌∙◌, Bool, true, false, cond, not, ◌&&◌, List, [], ◌∷◌, lt-ltb, ltb, eqb, ℤ, pos, negsuc}
use Rattle.rules.proofs.Kit.{length}
use Rattle.rules.specs.{Choice.equal, Records.Listed, Numbers.Decision, Price.cost_under, Verdict.Judged, Verdict.judged, Rank.Candidate, Rank.ranking}
use Rattle.rules.specs.{Decide.stopped_by}
use Rattle.rules.specs.{Decide.rejection, Decide.executed_as, Decide.chosen, Decide.by_ranking, Decide.by_verdicts, Decide.decision_of, Count.counts_of}
use Rattle.rules.specs.{Count.dominant_of, Levers.selects, declared.records.KernelInput.KernelInput, declared.records.PolicySnapshot.PolicySnapshot}
use Rattle.rules.proofs.Stopped.{unstopped}
use Rattle.pricing_terms.specs.Score.{scored}
use Rattle.kernel_ranking.specs.State.{held_of, nobody, top_of}
use Rattle.kernel_ranking.proofs.{Orders.Positive, Ranking.AllPositive, States.ranking-holds}
use Rattle.counterfactual_others.specs.Others.{best_of, has_id}

held_somebody : (u : ℤ) → Positive u → ltb (2 ^ 63) (scored u) ≡ true
unfolding scored
held_somebody (pos n) h = lt-ltb (2 ^ 63) (2 ^ 63 + n) (omega arith)
held_somebody (negsuc n) h = absurd h

held_id : (id : ℕ) (c : Candidate) → Positive c.utility → has_id id (held_of c) ≡ eqb c.id id
unfolding has_id held_of
held_id id c h = rw (held_somebody c.utility h)

module _ (p : PolicySnapshot) (q : KernelInput) where
  chosen-selects : (id n : ℕ) (c : Candidate) (rest : List Candidate) → selects id (chosen p q n c rest) ≡ eqb c.id id
  unfolding selects chosen executed_as equal
  chosen-selects id n c rest = go (eqb c.id q.requested_model_id)
    where
      go : (t : Bool) → (not (eqb (cond t 1 2) 3) && eqb c.id id) ≡ eqb c.id id
      go true = refl
      go false = refl

  none-selects : (id reason n : ℕ) → selects id (rejection p q reason n) ≡ has_id id nobody
  unfolding selects rejection has_id nobody
  none-selects id reason n = refl

  ranked-selects : (id : ℕ) (js : List Judged) (cs : List Candidate) → AllPositive cs → selects id (by_ranking p q js cs) ≡ has_id id (top_of cs).best
  ranked-selects id js [] a = none-selects id (dominant_of (counts_of js)) (length js)
  ranked-selects id js (c ∷ []) a = chosen-selects id (length js) c [] ∙ sym (held_id id c a.0)
  ranked-selects id js (c ∷ d ∷ cs) a = chosen-selects id (length js) c (d ∷ cs) ∙ sym (held_id id c a.0)

  ranked-costs : (js : List Judged) (cs : List Candidate) → (by_ranking p q js cs).cost ≡ (top_of cs).best.cost
  unfolding rejection chosen held_of nobody
  ranked-costs js [] = refl
  ranked-costs js (c ∷ []) = refl
  ranked-costs js (c ∷ d ∷ cs) = refl

  module _ (free : stopped_by p q ≡ 0) (ls : List Listed) where
    -- A DECISION SELECTS THE ID OF THE BEST, where there is one
    pub best-selects : (id : ℕ) → selects id (decision_of p q ls) ≡ has_id id (best_of p q ls)
    unfolding best_of by_verdicts
    best-selects id = ap (selects id) (unstopped (cost_under p) p q ls free)
        ∙ ranked-selects id (judged p q ls) (ranking (judged p q ls)) (ranking-holds p q ls).0

    -- AND COSTS WHAT THE BEST COSTS
    pub best-costs : (decision_of p q ls).cost ≡ (best_of p q ls).cost
    unfolding best_of by_verdicts
    best-costs = ap (λ (d : Decision). d.cost) (unstopped (cost_under p) p q ls free) ∙ ranked-costs (judged p q ls) (ranking (judged p q ls))
