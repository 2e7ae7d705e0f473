-- A QUESTION OVER LIVE RECORDS IS ANSWERED AS OVER ALL: who wins, and at what cost, is told by the ranking alone, and whoever is switched off isn't in
-- it. Over any list whose records with id 0 are switched off, for a model with another id. Assumes nothing.
use Rattle.rules.proofs.Kit.{ℕ, ◌+◌, ◌≡◌, refl, sym, ap, ◌∙◌, Bool, true, false, cond, false≢true, List, [], ◌∷◌, some, eqb, ltb, eqb-true, ⊎_elim, length}
use Rattle.rules.proofs.Kit.{Option·some-injective, Option·none-ne-some}
use Rattle.rules.specs.{Limits.ppm, Limits.max_price_scale, Choice.equal, Choice.below, Order.Each, Records.Listed, Records.listed, Numbers.Decision}
use Rattle.rules.specs.{Numbers.is_rejection, Listing.first_listed, Price.Cost, Verdict.Judged, Verdict.judge_by, Verdict.judged_by, Rank.Candidate}
use Rattle.rules.specs.{Rank.candidate_of, Rank.better, Rank.eligibles, Rank.ranking, Decide.rejection, Decide.executed_as, Decide.chosen, Decide.by_ranking}
use Rattle.rules.specs.{Decide.by_verdicts, Decide.stopped_by, Decide.decision_by, Halving.Highest, Halving.search_of, Halving.search_after_far_end}
use Rattle.rules.specs.{Levers.lever_at, Levers.selects, Levers.varied, Levers.Question, Levers.decision_at, Levers.wins, Levers.entry, Levers.priced}
use Rattle.rules.specs.{Win.win_levers, Win.win_search, Margin.margin_levers, Slots.live_of, declared.records.KernelModel.KernelModel}
use Rattle.rules.specs.{declared.records.KernelInput.KernelInput, declared.records.PolicySnapshot.PolicySnapshot, declared.boundary.Bound.Bound}
use Rattle.rules.specs.{Levers.at_boundary, Levers.plain, Levers.and_then, Halving.Lowest, Limits.max_bps, Limits.max_u32}
use Rattle.rules.proofs.{Choices.equal-yes, Choices.equal-no, Orders.same_or_not, Sorted.sorted-each, Stopped.unstopped, Stopped.not_stopped}
use Rattle.rules.proofs.Slots.{FreeOff, live-none, live-left, live-kept, live-some}
use Rattle.live_slots.proofs.LeftOut.{ranking-left}

-- ---- what the ranking alone tells of a decision

module _ (costs : Cost) (p : PolicySnapshot) (q : KernelInput) (ls ks : List Listed)
    (same : ranking (judged_by costs p q ls) ≡ ranking (judged_by costs p q ks)) where
  -- whatever sees neither how many were evaluated nor why nothing was chosen
  decided-alike : {A : Type 0} (f : Decision → A) → ((r s m n : ℕ) → f (rejection p q r m) ≡ f (rejection p q s n))
      → ((m n : ℕ) (c : Candidate) (cs : List Candidate) → f (chosen p q m c cs) ≡ f (chosen p q n c cs))
      → f (decision_by costs p q ls) ≡ f (decision_by costs p q ks)
  unfolding decision_by by_verdicts below
  decided-alike f none one = go (ltb 0 (stopped_by p q))
    where
      ranked : (is js : List Judged) (cs : List Candidate) → f (by_ranking p q is cs) ≡ f (by_ranking p q js cs)
      ranked is js [] = none _ _ _ _
      ranked is js (c ∷ cs) = one _ _ c cs

      go : (t : Bool) → f (cond t (rejection p q (stopped_by p q) 0) (by_verdicts p q (judged_by costs p q ls)))
          ≡ f (cond t (rejection p q (stopped_by p q) 0) (by_verdicts p q (judged_by costs p q ks)))
      go true = refl
      go false = ap (λ (cs : List Candidate). f (by_ranking p q (judged_by costs p q ls) cs)) same ∙ ranked _ _ (ranking (judged_by costs p q ks))

  -- WHOM IT SELECTS, AND WHAT THAT COSTS
  selects-alike : (id : ℕ) → selects id (decision_by costs p q ls) ≡ selects id (decision_by costs p q ks)
  unfolding selects rejection chosen executed_as
  selects-alike id = decided-alike (selects id) (λ r s m n. refl) (λ m n c cs. refl)

  costs-alike : (decision_by costs p q ls).cost ≡ (decision_by costs p q ks).cost
  unfolding rejection chosen
  costs-alike = decided-alike (λ d. d.cost) (λ r s m n. refl) (λ m n c cs. refl)

-- ---- a stand-in with another id than 0

-- An id as it is read of a listed record
abbrev id_in : Listed → ℕ
id_in l = l.model.model_id

module _ (id : ℕ) (other : id ≡ 0 → ⊥) (m : KernelModel) (own : m.model_id ≡ 0 → ⊥) where
  -- VARIED AMONG THE LIVE RECORDS, they are the live ones of all with it varied
  varied-live : (ls : List Listed) → varied id m (live_of ls) ≡ live_of (varied id m ls)
  unfolding varied
  varied-live [] = rw (live-none id_in)
  varied-live (l ∷ ls) =
      ⊎_elim
      (λ (e : id_in l ≡ 0). ap (varied id m) (live-left id_in l ls e) ∙ varied-live ls ∙ sym (live-left id_in l (varied id m ls) e)
      ∙ ap live_of (sym (equal-no (id_in l) id (listed l.place m ∷ ls) (l ∷ varied id m ls) (λ k. other (sym k ∙ e)))))
      (λ (n : id_in l ≡ 0 → ⊥). ap (varied id m) (live-kept id_in l ls n) ∙ kept n (varied-live ls))
      (same_or_not (id_in l) 0)
    where
      kept : (id_in l ≡ 0 → ⊥) → varied id m (live_of ls) ≡ live_of (varied id m ls) → varied id m (l ∷ live_of ls) ≡ live_of (varied id m (l ∷ ls))
      kept n later =
          ⊎_elim
          (λ (e : id_in l ≡ id). equal-yes _ id _ _ e ∙ sym (live-kept id_in (listed l.place m) ls own)
          ∙ ap live_of (sym (equal-yes (id_in l) id (listed l.place m ∷ ls) (l ∷ varied id m ls) e)))
          (λ (d : id_in l ≡ id → ⊥). equal-no _ id _ _ d ∙ ap (λ (ks : List Listed). l ∷ ks) later ∙ sym (live-kept id_in l (varied id m ls) n)
          ∙ ap live_of (sym (equal-no (id_in l) id (listed l.place m ∷ ls) (l ∷ varied id m ls) d)))
          (same_or_not (id_in l) id)

  varied-off : (ls : List Listed) → FreeOff ls → FreeOff (varied id m ls)
  unfolding varied equal
  varied-off [] h = tt
  varied-off (l ∷ ls) h = go (eqb (id_in l) id) (varied-off ls h.1)
    where
      go : (t : Bool) → FreeOff (varied id m ls) → FreeOff (cond t (listed l.place m ∷ ls) (l ∷ varied id m ls))
      go true r = (λ e. absurd (own e), h.1)
      go false r = (h.0, r)

-- ---- the question

module _ (costs : Cost) (p : PolicySnapshot) (q : KernelInput) (id : ℕ) (m : KernelModel) where
  -- about a model, over a list
  abbrev pub asking : List Listed → Question
  asking ls = record { costs = costs; policy = p; request = q; list = ls; id = id; model = m }

  module _ (ls : List Listed) (off : FreeOff ls) (other : id ≡ 0 → ⊥) (own : m.model_id ≡ 0 → ⊥) where
    -- a lever keeps the id
    same-ranking : (lever v : ℕ) → ranking (judged_by costs p q (varied id (lever_at lever v m) (live_of ls)))
        ≡ ranking (judged_by costs p q (varied id (lever_at lever v m) ls))
    unfolding lever_at
    same-ranking lever v =
        ap (λ (ks : List Listed). ranking (judged_by costs p q ks)) (varied-live id other (lever_at lever v m) own ls)
        ∙ sym (ranking-left costs p q (varied id (lever_at lever v m) ls) (varied-off id other (lever_at lever v m) own ls off))

    same-win : (lever v : ℕ) → wins (asking (live_of ls)) lever v ≡ wins (asking ls) lever v
    unfolding wins decision_at
    same-win lever v = selects-alike costs p q _ _ (same-ranking lever v) id

    -- so that a search over the one is a search over the other
    same-wins : (lever : ℕ) → wins (asking (live_of ls)) lever ≡ wins (asking ls) lever
    same-wins lever = λ i v. same-win lever v i

    same-cost : (v : ℕ) → (decision_at (asking (live_of ls)) 3 v).cost ≡ (decision_at (asking ls) 3 v).cost
    unfolding decision_at
    same-cost v = costs-alike costs p q _ _ (same-ranking 3 v)

    same-price : (b : Bound) → priced (asking (live_of ls)) b ≡ priced (asking ls) b
    same-price b = λ i. let entries = at_boundary (λ v. entry 3 ppm v (some (same-cost v i))) b in record { entries = entries; passes = b.passes + length entries }

    same-levers : win_levers (asking (live_of ls)) ≡ win_levers (asking ls)
    unfolding win_levers
    same-levers = λ i.
        let m = (asking ls).model in
        and_then (plain 1 m.quality_bps (search_of Lowest (same-wins 1 i) m.quality_bps max_bps))
        (and_then (plain 2 m.p95_latency_ms (search_of Highest (same-wins 2 i) 0 m.p95_latency_ms))
        (and_then (same-price (search_of Highest (same-wins 3 i) 0 ppm) i) (plain 4 m.risk_ceiling_bps (search_of Lowest (same-wins 4 i) m.risk_ceiling_bps max_bps))))

    -- WHAT WOULD WIN, AND THE MARGIN
    pub win-live : win_search (asking (live_of ls)) ≡ win_search (asking ls)
    unfolding win_search
    win-live = rw (same-wins 5, same-levers)

    pub margin-live : margin_levers (asking (live_of ls)) ≡ margin_levers (asking ls)
    unfolding margin_levers
    margin-live = λ i.
        let m = (asking ls).model in
        and_then (plain 1 m.quality_bps (search_of Lowest (same-wins 1 i) 0 m.quality_bps))
        (and_then (plain 2 m.p95_latency_ms (search_after_far_end Highest (same-wins 2 i) m.p95_latency_ms max_u32))
        (and_then (same-price (search_after_far_end Highest (same-wins 3 i) ppm max_price_scale) i)
        (plain 4 m.risk_ceiling_bps (search_after_far_end Lowest (same-wins 4 i) 0 m.risk_ceiling_bps))))

-- ---- whose id it is

-- WHAT IS FOUND HAS THE ID
pub first_has : (id : ℕ) (ls : List Listed) (l : Listed) → first_listed id ls ≡ some l → l.model.model_id ≡ id
unfolding first_listed equal
first_has id [] l e = absurd (Option·none-ne-some l e)
first_has id (k ∷ ks) l e = go (eqb (id_in k) id) refl (λ f. first_has id ks l f) e
  where
    go : (t : Bool) → eqb (id_in k) id ≡ t → (first_listed id ks ≡ some l → id_in l ≡ id) → cond t (some k) (first_listed id ks) ≡ some l → id_in l ≡ id
    go true t later e = rw (← Option·some-injective k l e) (eqb-true _ _ t)
    go false t later e = later e

module _ (costs : Cost) (p : PolicySnapshot) (q : KernelInput) where
  ids-kept : (ls : List Listed) → Each (λ l. id_in l ≡ 0 → ⊥) ls → Each (λ c. c.id ≡ 0 → ⊥) (eligibles (judged_by costs p q ls))
  unfolding equal
  ids-kept [] h = tt
  ids-kept (l ∷ ls) h = go (eqb (judge_by costs p q l).verdict.kind 4) (ids-kept ls h.1)
    where
      rest : List Candidate
      rest = eligibles (judged_by costs p q ls)

      go : (t : Bool) → Each (λ c. c.id ≡ 0 → ⊥) rest → Each (λ c. c.id ≡ 0 → ⊥) (cond t (candidate_of (judge_by costs p q l) ∷ rest) rest)
      go true r = (h.0, r)
      go false r = r

  ranked-id : (js : List Judged) (cs : List Candidate) → Each (λ c. c.id ≡ 0 → ⊥) cs → is_rejection (by_ranking p q js cs) ≡ false
      → (by_ranking p q js cs).model ≡ 0 → ⊥
  unfolding rejection chosen
  ranked-id js [] h r e = false≢true (sym r)
  ranked-id js (c ∷ cs) h r e = h.0 e

  -- WHAT IS CHOSEN AMONG LIVE RECORDS has another id than 0
  pub chosen_live : (ls : List Listed) → is_rejection (decision_by costs p q (live_of ls)) ≡ false → (decision_by costs p q (live_of ls)).model ≡ 0 → ⊥
  unfolding by_verdicts ranking
  chosen_live ls r e =
      let js = judged_by costs p q (live_of ls) in
      let d = unstopped costs p q (live_of ls) (not_stopped costs p q (live_of ls) r) in
      let ids = sorted-each better _ (eligibles js) (ids-kept (live_of ls) (live-some id_in ls)) in
      ranked-id js (ranking js) ids (ap is_rejection (sym d) ∙ r) (ap (λ (x : Decision). x.model) (sym d) ∙ e)
