-- One record apart from the others: the best of all by the best of the others and that record's verdict, and the best of the others by the
-- best two of all. Assumes nothing.
use Rattle.rules.proofs.Kit.{ℕ, ◌≡◌, refl, sym, ap, ◌∙◌, Bool, true, false, cond, List, [], ◌∷◌, ◌++◌, ◌⊎◌, inl, inr, eq-eqb, ne_eqb, eqb}
use Rattle.rules.specs.{Choice.equal, Records.Listed, Records.listed, Verdict.judged, Order.Each, Order.InOrder, Rank.Candidate, Rank.better, Rank.ranking}
use Rattle.rules.specs.{declared.records.KernelModel.KernelModel, declared.records.KernelInput.KernelInput, declared.records.PolicySnapshot.PolicySnapshot}
use Rattle.rules.proofs.Strict.{one_way}
use Rattle.pricing.specs.Pricing.{pricing_of}
use Rattle.kernel_ranking.specs.{State.held_of, State.nobody, State.top_two, State.top_of, State.state_of, State.better_of, State.ranked_of, State.state_entered}
use Rattle.kernel_verdict.specs.{Verdict.verdict_in, Verdict.entering_of, declared.Verdict.Verdict}
use Rattle.kernel_verdict.specs.declared.Verdict.TheVariants.{Rejected, OverBudget, NonPositive, Eligible}
use Rattle.kernel_ranking.specs.{After.state_after, declared.state.Top.Top, declared.state.State.State}
use Rattle.kernel_ranking.proofs.{Orders.clash, Orders.five, Orders.better_through, Orders.better-held, Orders.better-nobody, Ranking.AllPositive}
use Rattle.kernel_ranking.proofs.{States.ranking-holds, Moved.Elsewhere, Moved.ranking_each, Moved.state-apart, Verdicts.step-alike}
use Rattle.counterfactual_others.specs.Others.{best_of, others_of, against, best_with}
use Rattle.kernel_verdict.specs.declared.Candidate as held

-- ---- two candidates and one more

-- The second of a ranking is not better than the first
not_above : (cs : List Candidate) → AllPositive cs → InOrder better cs → better_of (top_of cs).second (top_of cs).best ≡ false
not_above [] a o = five.itself nobody
not_above (c ∷ []) a o = one_way five (held_of c) nobody (better-nobody c a.0)
not_above (c ∷ d ∷ cs) a o = better-held d c a.1.0 a.0 ∙ o.0.0

-- The first has another place; or there is no first, and the second is nobody too
abbrev Free : ℕ → Top → Type 0
Free place t = (t.second ≡ t.best) ⊎ (t.best.model_index ≡ place → ⊥)

first_free : (place : ℕ) (cs : List Candidate) → Each (λ c. place ≡ c.place → ⊥) cs → Free place (top_of cs)
unfolding held_of
first_free place [] h = inl refl
first_free place (c ∷ []) h = inr (λ e. h.0 (sym e))
first_free place (c ∷ d ∷ cs) h = inr (λ e. h.0 (sym e))

-- so the best of the others is the first
others_first : (place : ℕ) (t : Top) → Free place t → others_of t place ≡ t.best
unfolding others_of equal
others_first place t (inl e) = go (eqb t.best.model_index place)
  where
    go : (b : Bool) → cond b t.second t.best ≡ t.best
    go true = e
    go false = refl
others_first place t (inr d) = rw (ne_eqb t.best.model_index place d)

module _ (t : Top) (c : held.Candidate) (n : better_of t.second t.best ≡ false) where
  -- the first of two with one more is the better of the two
  ranked-best : (ranked_of t c).best ≡ cond (better_of c t.best) c t.best
  unfolding ranked_of
  ranked-best = go (better_of c t.second) (better_of c t.best) (better_through c t.best t.second) n
    where
      go : (u v : Bool) → (v ≡ true → better_of t.second t.best ≡ false → u ≡ true) → better_of t.second t.best ≡ false
          → (cond u (cond v (top_two c t.best) (top_two t.best c)) t).best ≡ cond v c t.best
      go true true k n = refl
      go true false k n = refl
      go false true k n = clash (k refl n) refl
      go false false k n = refl

  -- and without the one more, the first again
  ranked-others : (place : ℕ) → c.model_index ≡ place → Free place t → others_of (ranked_of t c) place ≡ t.best
  unfolding ranked_of others_of equal
  ranked-others place here free = go (better_of c t.second) (better_of c t.best) refl refl
    where
      first : others_of (top_two c t.best) place ≡ t.best
      first = rw (eq-eqb c.model_index place here)

      second : Free place t → better_of c t.second ≡ true → better_of c t.best ≡ false → others_of (top_two t.best c) place ≡ t.best
      second (inl e) y z = clash (ap (better_of c) (sym e) ∙ y) z
      second (inr d) y z = rw (ne_eqb t.best.model_index place d)

      go : (u v : Bool) → better_of c t.second ≡ u → better_of c t.best ≡ v
          → others_of (cond u (cond v (top_two c t.best) (top_two t.best c)) t) place ≡ t.best
      go true true y z = first
      go true false y z = second free y z
      go false true y z = clash (better_through c t.best t.second z n) y
      go false false y z = others_first place t free

-- ---- one record more, by its verdict

module _ (s : State) (place : ℕ) (m : KernelModel) (n : better_of s.top.second s.top.best ≡ false) where
  after-best : (v : Verdict) → (state_after s place m v).top.best ≡ against s.top.best place m v
  unfolding state_after against state_entered
  after-best (Rejected gate) = refl
  after-best (OverBudget cost) = refl
  after-best (NonPositive t) = refl
  after-best (Eligible t) = ranked-best s.top (entering_of m place t) n

  after-others : Free place s.top → (v : Verdict) → others_of (state_after s place m v).top place ≡ s.top.best
  unfolding state_after state_entered entering_of
  after-others free (Rejected gate) = others_first place s.top free
  after-others free (OverBudget cost) = others_first place s.top free
  after-others free (NonPositive t) = others_first place s.top free
  after-others free (Eligible t) = ranked-others s.top (entering_of m place t) n place here free
    where
      here : (entering_of m place t).model_index ≡ place
      here = refl

module _ (p : PolicySnapshot) (q : KernelInput) (ls ks : List Listed) (place : ℕ) (m : KernelModel) (later : Each (Elsewhere place) ks) where
  abbrev others : State
  others = state_of (judged p q (ls ++ ks))

  all : state_of (judged p q (ls ++ listed place m ∷ ks)) ≡ state_after others place m (verdict_in (pricing_of p q) q m)
  all = state-apart p q ls (listed place m) ks later ∙ step-alike p q others place m

  second_below : better_of others.top.second others.top.best ≡ false
  unfolding state_of
  second_below = let (a, o) = ranking-holds p q (ls ++ ks) in not_above (ranking (judged p q (ls ++ ks))) a o

  -- THE BEST OF ALL, by the best of the others and the verdict of the one
  pub best-apart : best_of p q (ls ++ listed place m ∷ ks) ≡ best_with (pricing_of p q) q (best_of p q (ls ++ ks)) place m
  unfolding state_of best_of best_with
  best-apart = ap (λ (s : State). s.top.best) all ∙ after-best others place m second_below (verdict_in (pricing_of p q) q m)

  -- THE BEST OF THE OTHERS, by the best two of all
  pub others_apart : Each (Elsewhere place) (ls ++ ks) → others_of (top_of (ranking (judged p q (ls ++ listed place m ∷ ks)))) place ≡ best_of p q (ls ++ ks)
  unfolding state_of best_of
  others_apart elsewhere =
      ap (λ (s : State). others_of s.top place) all
      ∙ after-others others place m second_below
      (first_free place (ranking (judged p q (ls ++ ks))) (ranking_each p q (λ n. place ≡ n → ⊥) (ls ++ ks) elsewhere))
      (verdict_in (pricing_of p q) q m)
