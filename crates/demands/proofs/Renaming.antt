-- ONE LAW FOR PLACES: over any list of records, by any rule of cost, verdicts, counts, ranking and decision follow any strictly rising renaming of
-- places, and a catalogue epoch is seen in the decision alone. So do the other answers (`MovedAnswers`) and both boundaries (`MovedBoundaries`).
-- Assumes nothing.
use Rattle.rules.proofs.Kit.{ℕ, ◌≤◌, ◌<◌, ◌≡◌, refl, sym, ap, ◌∙◌, Bool, true, false, cond, List, [], ◌∷◌, map, foldl, ⊎_elim, arith, ltb-true, ltb-false}
use Rattle.rules.proofs.Kit.{lt-ltb, le-ltb, ltb, eqb, length, length-map}
use Rattle.rules.specs.{Choice.below, Choice.equal, Choice.lower, Order.insert_by, Order.sorted_by, Records.Listed, Numbers.Decision, Price.Cost}
use Rattle.rules.specs.{Utility.risk_term_of, Utility.charged_ms, Utility.latency_term_of, Utility.exact_utility_of, Utility.utility_of}
use Rattle.rules.specs.{Verdict.by_utility, Verdict.verdict_costing}
use Rattle.rules.specs.{Verdict.Judged, Verdict.judged_by, Rank.Candidate, Rank.candidate_of, Rank.better, Rank.eligibles, Rank.ranking, Count.counted_for}
use Rattle.rules.specs.{Count.reasons_of, Count.counts_from, Count.counts_of, Count.dominant_of, Decide.stopped_by, Decide.rejection, Decide.executed_as}
use Rattle.rules.specs.{Decide.counterfactual_id, Decide.counterfactual_worth, Decide.chosen, Decide.by_ranking, Decide.by_verdicts, Decide.decision_by}
use Rattle.rules.specs.{declared.records.KernelModel.KernelModel, declared.records.KernelInput.KernelInput, declared.records.PolicySnapshot.PolicySnapshot}
use Rattle.rules.proofs.{Choices.equal-no, Orders.lt_or_le}
use Rattle.demands.specs.Renamed.{Rises, renamed, renamed_judged, renamed_candidate, policy_at, renamed_place, moved_decision, OnlyPlaceAndEpoch}

-- ---- any list in order: what leaves the test leaves the order

module _ {A : Type 0} (before : A → A → Bool) (g : A → A) (same : (a b : A) → before (g a) (g b) ≡ before a b) where
  insert-mapped : (xs : List A) (c : A) → insert_by before (map g xs) (g c) ≡ map g (insert_by before xs c)
  insert-mapped [] c = refl
  insert-mapped (x ∷ xs) c = rw (same c x, insert-mapped xs c) (go (before c x))
    where
      go : (t : Bool) → cond t (g c ∷ g x ∷ map g xs) (g x ∷ map g (insert_by before xs c)) ≡ map g (cond t (c ∷ x ∷ xs) (x ∷ insert_by before xs c))
      go true = refl
      go false = refl

  fold-mapped : (acc cs : List A) → foldl (insert_by before) (map g acc) (map g cs) ≡ map g (foldl (insert_by before) acc cs)
  fold-mapped acc [] = refl
  fold-mapped acc (c ∷ cs) = ap (λ (xs : List A). foldl (insert_by before) xs (map g cs)) (insert-mapped acc c) ∙ fold-mapped (insert_by before acc c) cs

  pub sorted-mapped : (cs : List A) → sorted_by before (map g cs) ≡ map g (sorted_by before cs)
  sorted-mapped cs = fold-mapped [] cs

-- ---- verdicts and counts don't see places

module _ (f : ℕ → ℕ) where
  -- D3, D14, D19. THE VERDICTS ARE THE SAME, record by record
  pub judged-renamed : (costs : Cost) (p : PolicySnapshot) (q : KernelInput) (ls : List Listed)
      → judged_by costs p q (map (renamed f) ls) ≡ map (renamed_judged f) (judged_by costs p q ls)
  judged-renamed costs p q [] = refl
  judged-renamed costs p q (l ∷ ls) = rw (judged-renamed costs p q ls)

  reasons-renamed : (js : List Judged) → reasons_of (map (renamed_judged f) js) ≡ reasons_of js
  reasons-renamed [] = refl
  reasons-renamed (j ∷ js) = ap (λ (rs : List ℕ). counted_for j.verdict ∷ rs) (reasons-renamed js)

  -- D23. AND SO ARE THE COUNTS
  pub counts-renamed : (js : List Judged) → counts_of (map (renamed_judged f) js) ≡ counts_of js
  unfolding counts_of
  counts-renamed js = ap counts_from (reasons-renamed js)

  eligibles-renamed : (js : List Judged) → eligibles (map (renamed_judged f) js) ≡ map (renamed_candidate f) (eligibles js)
  unfolding equal
  eligibles-renamed [] = refl
  eligibles-renamed (j ∷ js) = rw (eligibles-renamed js) (go (eqb j.verdict.kind 4))
    where
      go : (t : Bool) → cond t (renamed_candidate f (candidate_of j) ∷ map (renamed_candidate f) (eligibles js)) (map (renamed_candidate f) (eligibles js))
          ≡ map (renamed_candidate f) (cond t (candidate_of j ∷ eligibles js) (eligibles js))
      go true = refl
      go false = refl

-- ---- the ranking follows places that rise

module _ (f : ℕ → ℕ) (rises : Rises f) where
  place-order : (a b : ℕ) → ltb (f a) (f b) ≡ ltb a b
  place-order a b = go (ltb a b) refl
    where
      level : b ≤ a → f b ≤ f a
      level h =
          ⊎_elim (λ (k : b < a). omega (arith, rises b a k)) (λ (k : a ≤ b). let e : a ≡ b = omega arith in rw e (omega arith))
          (lt_or_le b a)

      go : (t : Bool) → ltb a b ≡ t → ltb (f a) (f b) ≡ t
      go true e = lt-ltb (f a) (f b) (rises a b (ltb-true a b e))
      go false e = le-ltb (f a) (f b) (level (ltb-false a b e))

  better-renamed : (a b : Candidate) → better (renamed_candidate f a) (renamed_candidate f b) ≡ better a b
  unfolding better lower
  better-renamed a b = rw (place-order a.place b.place, place-order b.place a.place)

  -- D22. THE RANKING IS THE SAME at the new places
  pub ranking-renamed : (js : List Judged) → ranking (map (renamed_judged f) js) ≡ map (renamed_candidate f) (ranking js)
  unfolding ranking
  ranking-renamed js =
      ap (sorted_by better) (eligibles-renamed f js) ∙ sorted-mapped better (renamed_candidate f) better-renamed (eligibles js)

-- ---- an epoch is seen by no test

module _ (epoch : ℕ) (p : PolicySnapshot) (q : KernelInput) where
  pub same-stopped : stopped_by (policy_at epoch p) q ≡ stopped_by p q
  unfolding stopped_by
  same-stopped = refl

  pub same-verdict : (m : KernelModel) (cost : ℕ) → verdict_costing (policy_at epoch p) q m cost ≡ verdict_costing p q m cost
  unfolding verdict_costing by_utility utility_of exact_utility_of risk_term_of latency_term_of charged_ms
  same-verdict m cost = refl

  pub same-judged : (costs : Cost) (ls : List Listed) → judged_by costs (policy_at epoch p) q ls ≡ judged_by costs p q ls
  unfolding same-verdict
  same-judged costs ls = refl

-- ---- the decision

not_rejected : (a b : ℕ) → executed_as a b ≡ 3 → ⊥
unfolding executed_as equal
not_rejected a b e = go (eqb a b) e
  where
    go : (t : Bool) → ◌≡◌ {A = ℕ} (cond t 1 2) 3 → ⊥
    go true e = omega arith
    go false e = omega arith

counterfactual_id_lem : (f : ℕ → ℕ) (cs : List Candidate) → counterfactual_id (map (renamed_candidate f) cs) ≡ counterfactual_id cs
counterfactual_id_lem f [] = refl
counterfactual_id_lem f (c ∷ cs) = refl

counterfactual_worth_lem : (f : ℕ → ℕ) (cs : List Candidate) → counterfactual_worth (map (renamed_candidate f) cs) ≡ counterfactual_worth cs
counterfactual_worth_lem f [] = refl
counterfactual_worth_lem f (c ∷ cs) = refl

module _ (f : ℕ → ℕ) (epoch : ℕ) (p : PolicySnapshot) (q : KernelInput) where
  rejection-moved : (reason n : ℕ) → rejection (policy_at epoch p) q reason n ≡ moved_decision f epoch (rejection p q reason n)
  unfolding rejection renamed_place equal
  rejection-moved reason n = refl

  chosen-place : (n : ℕ) (c : Candidate) (cs : List Candidate) → renamed_place f (chosen p q n c cs) ≡ f c.place
  unfolding chosen renamed_place
  chosen-place n c cs = equal-no (executed_as c.id q.requested_model_id) 3 _ _ (not_rejected c.id q.requested_model_id)

  chosen-moved : (n : ℕ) (c : Candidate) (cs : List Candidate)
      → chosen (policy_at epoch p) q n (renamed_candidate f c) (map (renamed_candidate f) cs) ≡ moved_decision f epoch (chosen p q n c cs)
  unfolding chosen
  chosen-moved n c cs = rw (chosen-place n c cs, length-map cs (renamed_candidate f), counterfactual_id_lem f cs, counterfactual_worth_lem f cs)

  by-ranking : (js ks : List Judged) (cs : List Candidate) → counts_of js ≡ counts_of ks → length js ≡ length ks
      → by_ranking (policy_at epoch p) q js (map (renamed_candidate f) cs) ≡ moved_decision f epoch (by_ranking p q ks cs)
  by-ranking js ks [] e n = rw (e, n) (rejection-moved (dominant_of (counts_of ks)) (length ks))
  by-ranking js ks (c ∷ cs) e n = rw n (chosen-moved (length ks) c cs)

  module _ (rises : Rises f) where
    by-verdicts : (js : List Judged) → by_verdicts (policy_at epoch p) q (map (renamed_judged f) js) ≡ moved_decision f epoch (by_verdicts p q js)
    unfolding by_verdicts
    by-verdicts js =
        rw (ranking-renamed f rises js)
        (by-ranking (map (renamed_judged f) js) js (ranking js) (counts-renamed f js) (length-map js (renamed_judged f)))

    -- Demand 2. THE DECISION IS THE SAME at the new place, under the policy's epoch
    pub decision-moved : (costs : Cost) (ls : List Listed)
        → decision_by costs (policy_at epoch p) q (map (renamed f) ls) ≡ moved_decision f epoch (decision_by costs p q ls)
    unfolding decision_by below
    decision-moved costs ls =
        rw (same-stopped epoch p q, same-judged epoch p q costs (map (renamed f) ls), judged-renamed f costs p q ls) (go (ltb 0 (stopped_by p q)))
      where
        go : (t : Bool)
            → cond t (rejection (policy_at epoch p) q (stopped_by p q) 0) (by_verdicts (policy_at epoch p) q (map (renamed_judged f) (judged_by costs p q ls)))
            ≡ moved_decision f epoch (cond t (rejection p q (stopped_by p q) 0) (by_verdicts p q (judged_by costs p q ls)))
        go true = rejection-moved (stopped_by p q) 0
        go false = by-verdicts (judged_by costs p q ls)

-- Demand 2. With no other epoch: THE DECISION FOLLOWS THE RENAMING
pub decision_renamed : (f : ℕ → ℕ) → Rises f → (costs : Cost) (p : PolicySnapshot) (q : KernelInput) (ls : List Listed)
    → decision_by costs p q (map (renamed f) ls) ≡ moved_decision f p.catalog_epoch (decision_by costs p q ls)
decision_renamed f rises costs p q ls = decision-moved f p.catalog_epoch p q rises costs ls

-- THE EPOCH OF A DECISION is its policy's: any list is itself at its own places
pub epoch_is : (costs : Cost) (p : PolicySnapshot) (q : KernelInput) (ls : List Listed) → (decision_by costs p q ls).catalog_epoch ≡ p.catalog_epoch
epoch_is costs p q ls =
    ap (λ (d : Decision). d.catalog_epoch) (ap (decision_by costs p q) (sym (unmoved ls)) ∙ decision_renamed (λ n. n) (λ a b h. h) costs p q ls)
  where
    unmoved : (ks : List Listed) → map (renamed (λ n. n)) ks ≡ ks
    unmoved [] = refl
    unmoved (k ∷ ks) = ap (λ (rest : List Listed). k ∷ rest) (unmoved ks)

-- A moved decision differs in place and epoch alone
pub only_moved : (f : ℕ → ℕ) (epoch : ℕ) (d : Decision) → OnlyPlaceAndEpoch (moved_decision f epoch d) d
only_moved f epoch d =
    record {
      sequence = refl;
      action = refl;
      reason = refl;
      model = refl;
      cost = refl;
      utility = refl;
      counterfactual = refl;
      counterfactual_utility = refl;
      evaluated = refl;
      eligible = refl;
      policy_epoch = refl;
    }
