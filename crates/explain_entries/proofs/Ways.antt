-- The three ways to a verdict on one record, for both functions that judge one: each is the scan's, told with its numbers. Assumes nothing.
use Rattle.rules.proofs.Kit.{ℕ, ◌<◌, ◌≤◌, ◌≡◌, sym, ap, ◌∙◌}
use Rattle.rules.proofs.Choices.{below-yes, below-no}
use Rattle.rules.specs.{Numbers.Verdict, Gates.gate_of, Gates.detail_of, Price.cost_of, Verdict.rejected, Verdict.over_budget}
use Rattle.rules.specs.{declared.records.KernelModel.KernelModel, declared.records.KernelInput.KernelInput, declared.verdict.GateDetail.GateDetail}
use Rattle.pricing.specs.declared.Pricing.{Pricing}
use Rattle.pricing_terms.specs.{Terms.terms_with, declared.ScoredTerms.ScoredTerms}
use Rattle.kernel_verdict.specs.Verdict.{by_score, verdict_in}
use Rattle.explain_entries.specs.Scanned.{scanned}

module _ (pr : Pricing) (q : KernelInput) (m : KernelModel) {gate : ℕ} (g : gate ≡ gate_of m q) where
  -- A gate fails
  pub by-gate : {v : Verdict} {d : GateDetail} → 0 < gate → d ≡ detail_of m q gate → v ≡ rejected gate d → v ≡ scanned q m (verdict_in pr q m)
  unfolding verdict_in scanned
  by-gate h e told = told ∙ rw (e, ← g) (sym (ap (scanned q m) (below-yes _ _ _ _ h)))

  module _ {cost : ℕ} (passed : gate ≤ 0) (c : cost ≡ cost_of pr.rounding m q) where
    -- No gate fails, and the cost is above the budget
    pub by-budget : q.budget_limit_microunits < cost → over_budget cost q.budget_limit_microunits ≡ scanned q m (verdict_in pr q m)
    unfolding verdict_in scanned
    by-budget h = rw (← g, ← c) (sym (ap (scanned q m) (below-no _ _ _ _ passed ∙ below-yes _ _ _ _ h)))

    -- else by the score
    pub by-terms : {v : Verdict} {t : ScoredTerms} → cost ≤ q.budget_limit_microunits → t ≡ terms_with pr m cost → v ≡ scanned q m (by_score t)
        → v ≡ scanned q m (verdict_in pr q m)
    unfolding verdict_in scanned
    by-terms h e told =
        told
        ∙ ap (λ t. scanned q m (by_score t)) e
        ∙ rw (← g, ← c) (sym (ap (scanned q m) (below-no _ _ _ _ passed ∙ below-no _ _ _ _ h)))
