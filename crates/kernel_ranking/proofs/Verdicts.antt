-- A scan's verdict says what the rules' verdict says, and a scan is a run of the rules. Assumes nothing.
use Rattle.kernel_ranking.proofs.Steps.{turned_away, step_of, run_of}
use Rattle.rules.proofs.Kit.{ℕ, suc, ◌+◌, ◌^◌, arith, ◌≡◌, refl, sym, ap, ◌∙◌, Bool, true, false, cond, List, [], ◌∷◌, ◌++◌, foldl-append, lt-ltb, le-ltb}
use Rattle.rules.proofs.Kit.{leb-true, leb-false, ltb-true, ltb, leb, pos, length, le_z}
use Rattle.rules.specs.{Choice.below, Choice.equal, Records.Listed, Records.listed, Gates.gate_of, Gates.detail_of, Price.cost_of, Price.cost_under}
use Rattle.rules.specs.{Utility.utility_of}
use Rattle.rules.specs.{Count.gate_reason, Count.counted_for, Count.total, declared.records.KernelModel.KernelModel, declared.records.KernelInput.KernelInput}
use Rattle.rules.specs.{declared.records.PolicySnapshot.PolicySnapshot}
use Rattle.rules.proofs.{Reasons.reason_counted, Verdicts.gate_high, Counts.total_raised}
use Rattle.pricing.specs.{Pricing.pricing_of, declared.Pricing.Pricing}
use Rattle.pricing_terms.specs.{Score.scored, Terms.terms_with, declared.ScoredTerms.ScoredTerms}
use Rattle.pricing_terms.proofs.{Scores.scored-unscored, Scores.score_positive, Ruled.Ruled, Ruled.terms-rule}
use Rattle.kernel_verdict.specs.{Verdict.by_score, Verdict.verdict_in, Verdict.counted_of, Verdict.entering_of, declared.Verdict.Verdict}
use Rattle.kernel_verdict.specs.declared.Verdict.TheVariants.{Rejected, OverBudget, NonPositive, Eligible}
use Rattle.kernel_ranking.specs.State.{held_of, state_entered}
use Rattle.kernel_ranking.specs.{After.state_after, After.scan_of, declared.state.State.State}
use Rattle.kernel_ranking.proofs.States.{fold-sum}
use Rattle.rules.specs.Numbers as numbers
use Rattle.rules.specs.Verdict as rules

-- ---- one record

module _ (p : PolicySnapshot) (q : KernelInput) (s : State) (place : ℕ) (m : KernelModel) where
  -- the two say the same of a record at a place
  abbrev Alike : numbers.Verdict → Verdict → Type 0
  Alike u v = step_of s (record { listed = listed place m; verdict = u }) ≡ state_after s place m v

  either : (b : Bool) (u v : numbers.Verdict) (x y : Verdict) → Alike u x → Alike v y → Alike (cond b u v) (cond b x y)
  either true u v x y h k = h
  either false u v x y h k = k

  alike-rejected : (gate : ℕ) → Alike (rules.rejected gate (detail_of m q gate)) (Rejected gate)
  unfolding step_of turned_away state_after counted_of counted_for equal
  alike-rejected gate = refl

  alike-budget : (cost : ℕ) → Alike (rules.over_budget cost q.budget_limit_microunits) (OverBudget cost)
  unfolding step_of turned_away state_after counted_of counted_for equal
  alike-budget cost = refl

  module _ (cost : ℕ) (t : ScoredTerms) (ruled : Ruled p m q cost t) where
    held-score : scored (utility_of p m q cost) ≡ t.score
    held-score = ap scored (sym ruled.utility) ∙ scored-unscored t.score

    alike-terms : (b : Bool) → leb t.score (2 ^ 63) ≡ b → Alike (rules.with_terms p q m cost (cond b 3 4)) (by_score t)
    unfolding step_of turned_away state_entered state_after counted_of counted_for equal entering_of held_of by_score below
    alike-terms true e = rw (le-ltb (2 ^ 63) t.score (leb-true _ _ e))
    alike-terms false e = rw (lt-ltb (2 ^ 63) t.score (leb-false _ _ e), held-score, ruled.cost)

    alike-priced : Alike (rules.by_utility p q m cost) (by_score t)
    unfolding rules.by_utility
    alike-priced =
        let e : le_z (utility_of p m q cost) (pos 0) ≡ leb t.score (2 ^ 63) = ap (λ u. le_z u (pos 0)) (sym ruled.utility) ∙ score_positive t.score in
        rw e (alike-terms (leb t.score (2 ^ 63)) refl)

  -- ONE STEP OF THE RULES IS WHAT THE SCAN DOES AT ITS VERDICT
  pub step-alike : step_of s (rules.judge p q (listed place m)) ≡ state_after s place m (verdict_in (pricing_of p q) q m)
  unfolding rules.verdict_costing verdict_in pricing_of below
  step-alike =
      let cost = cost_under p m q in
      let t = terms_with (pricing_of p q) m cost in
      either (ltb 0 (gate_of m q)) _ _ (Rejected (gate_of m q)) _ (alike-rejected (gate_of m q))
      (either (ltb q.budget_limit_microunits cost) _ _ (OverBudget cost) (by_score t) (alike-budget cost) (alike-priced cost t (terms-rule p m q cost)))

-- ---- some records

-- A SCAN IS A RUN OF THE RULES
pub scan_run : (p : PolicySnapshot) (q : KernelInput) (s : State) (ls : List Listed) → scan_of (pricing_of p q) q s ls ≡ run_of p q s ls
unfolding scan_of run_of
scan_run p q s [] = refl
scan_run p q s (l ∷ ls) = rw (← step-alike p q s l.place l.model) (scan_run p q (step_of s (rules.judge p q l)) ls)

-- One record more is one more in the counts, or one more that is eligible
module _ (s : State) (place : ℕ) (m : KernelModel) where
  abbrev Grows : Verdict → Type 0
  Grows v = total (state_after s place m v).counts + (state_after s place m v).eligible ≡ suc (total s.counts + s.eligible)

  either-grows : (b : Bool) (x y : Verdict) → (b ≡ true → Grows x) → Grows y → Grows (cond b x y)
  either-grows true x y h k = h refl
  either-grows false x y h k = k

  priced-grows : (t : ScoredTerms) → Grows (by_score t)
  unfolding by_score below state_after counted_of state_entered
  priced-grows t =
      either-grows (ltb (2 ^ 63) t.score) (Eligible t) (NonPositive t)
      (λ e. omega arith) (omega (arith, total_raised s.counts 109 (omega arith) (omega arith)))

  after-grows : (pr : Pricing) (q : KernelInput) → Grows (verdict_in pr q m)
  unfolding verdict_in below state_after counted_of
  after-grows pr q =
      let cost = cost_of pr.rounding m q in
      either-grows (ltb 0 (gate_of m q)) (Rejected (gate_of m q)) _
      (λ e. let b = reason_counted (gate_of m q) (ltb-true 0 (gate_of m q) e) (gate_high m q) in omega
      (arith, total_raised s.counts (gate_reason (gate_of m q)) b.0 b.1))
      (either-grows (ltb q.budget_limit_microunits cost) (OverBudget cost) (by_score (terms_with pr m cost))
      (λ e. omega (arith, total_raised s.counts 108 (omega arith) (omega arith))) (priced-grows (terms_with pr m cost)))

module _ (pr : Pricing) (q : KernelInput) where
  pub scan-append : (s : State) (ls ks : List Listed) → scan_of pr q s (ls ++ ks) ≡ scan_of pr q (scan_of pr q s ls) ks
  unfolding scan_of
  scan-append s ls ks = foldl-append (λ s l. state_after s l.place l.model (verdict_in pr q l.model)) s ls ks

  pub scan-one : (s : State) (l : Listed) → scan_of pr q s (l ∷ []) ≡ state_after s l.place l.model (verdict_in pr q l.model)
  unfolding scan_of
  scan-one s l = refl

  pub scan-none : (s : State) → scan_of pr q s [] ≡ s
  unfolding scan_of
  scan-none s = refl

  pub scan-sum : (s : State) (ls : List Listed) → total (scan_of pr q s ls).counts + (scan_of pr q s ls).eligible ≡ total s.counts + s.eligible + length ls
  unfolding scan_of
  scan-sum s ls =
      fold-sum (λ s l. state_after s l.place l.model (verdict_in pr q l.model))
      (λ s l. after-grows s l.place l.model pr q) s ls
