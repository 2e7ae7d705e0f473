-- WHAT A RECORD IS TOLD IS WHAT THE SCAN USED: the scan's verdict, told with its numbers, is the rules' verdict. Assumes nothing.
use Rattle.rules.proofs.Kit.{ℕ, ◌^◌, ◌≡◌, refl, sym, ap, ◌∙◌, Bool, true, false, cond, List, [], ◌∷◌, map, lt-ltb, le-ltb, leb-true, leb-false, ltb, leb, pos}
use Rattle.rules.proofs.Kit.{le_z}
use Rattle.rules.specs.{Choice.below, Records.Listed, Numbers.Verdict, Gates.gate_of, Price.cost_under, Utility.utility_of, Verdict.Judged, Verdict.judged}
use Rattle.rules.specs.{Verdict.with_terms, Verdict.by_utility, Verdict.verdict_costing, Verdict.verdict_of, declared.records.KernelModel.KernelModel}
use Rattle.rules.specs.{declared.records.KernelInput.KernelInput, declared.records.PolicySnapshot.PolicySnapshot}
use Rattle.pricing.specs.{Pricing.pricing_of, declared.Pricing.Pricing}
use Rattle.pricing_terms.specs.{Terms.terms_with, Terms.utility_terms_of, declared.ScoredTerms.ScoredTerms}
use Rattle.pricing_terms.proofs.{Scores.score_positive, Ruled.Ruled, Ruled.terms-rule}
use Rattle.kernel_verdict.specs.Verdict.{by_score, verdict_in}
use Rattle.kernel_verdict.specs.declared.Verdict.TheVariants.{Rejected, OverBudget}
use Rattle.explain_entries.specs.{Scanned.scanned, Entry.judged_entry}
use Rattle.kernel_verdict.specs.declared.Verdict as scan

module _ (p : PolicySnapshot) (q : KernelInput) (m : KernelModel) where
  either : (b : Bool) (x y : scan.Verdict) (u v : Verdict) → scanned q m x ≡ u → scanned q m y ≡ v → scanned q m (cond b x y) ≡ cond b u v
  either true x y u v h k = h
  either false x y u v h k = k

  module _ (cost : ℕ) (t : ScoredTerms) (ruled : Ruled p m q cost t) where
    -- by the test of the score, which is that of the utility
    scanned-terms : (b : Bool) → leb t.score (2 ^ 63) ≡ b → scanned q m (by_score t) ≡ with_terms p q m cost (cond b 3 4)
    unfolding scanned by_score below utility_terms_of
    scanned-terms true e =
        rw (le-ltb (2 ^ 63) t.score (leb-true _ _ e), ruled.quality, ruled.risk, ruled.cost, ruled.latency, ruled.utility)
    scanned-terms false e =
        rw (lt-ltb (2 ^ 63) t.score (leb-false _ _ e), ruled.quality, ruled.risk, ruled.cost, ruled.latency, ruled.utility)

    scanned-priced : scanned q m (by_score t) ≡ by_utility p q m cost
    unfolding by_utility
    scanned-priced =
        let e : le_z (utility_of p m q cost) (pos 0) ≡ leb t.score (2 ^ 63) = ap (λ u. le_z u (pos 0)) (sym ruled.utility) ∙ score_positive t.score in
        rw e (scanned-terms (leb t.score (2 ^ 63)) refl)

  -- ONE RECORD: the scan's verdict tells what the rules tell, the gate, what it compared, and every term
  pub verdict-scanned : scanned q m (verdict_in (pricing_of p q) q m) ≡ verdict_of p q m
  unfolding scanned verdict_in verdict_costing pricing_of below
  verdict-scanned =
      let cost = cost_under p m q in
      let t = terms_with (pricing_of p q) m cost in
      either (ltb 0 (gate_of m q)) (Rejected (gate_of m q)) _ _ _ refl
      (either (ltb q.budget_limit_microunits cost) (OverBudget cost) (by_score t) _ _ refl (scanned-priced cost t (terms-rule p m q cost)))

-- A record with what a pricing tells of it
abbrev pub tell_in : Pricing → KernelInput → Listed → Judged
tell_in pr q l = judged_entry l.place l.model (scanned q l.model (verdict_in pr q l.model))

-- SOME RECORDS: each is told what the scan used
pub records_scanned : (p : PolicySnapshot) (q : KernelInput) (ls : List Listed) → map (tell_in (pricing_of p q) q) ls ≡ judged p q ls
records_scanned p q [] = refl
records_scanned p q (l ∷ ls) = rw (verdict-scanned p q l.model, records_scanned p q ls)
