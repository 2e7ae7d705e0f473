-- What one record is told within a scan, what that adds to the counts, and the model as it enters the ranking.
use Rattle.std.specs.Prelude.{ℕ, ◌^◌}
use Rattle.rules.specs.Choice.{below}
use Rattle.rules.specs.Gates.{gate_of}
use Rattle.rules.specs.Price.{cost_of}
use Rattle.rules.specs.Count.{gate_reason, raised_by}
use Rattle.rules.specs.declared.records.KernelModel.{KernelModel}
use Rattle.rules.specs.declared.records.KernelInput.{KernelInput}
use Rattle.rules.specs.declared.decision.RejectionHistogram.{RejectionHistogram}
use Rattle.pricing.specs.declared.Pricing.{Pricing}
use Rattle.pricing_terms.specs.Terms.{terms_with}
use Rattle.pricing_terms.specs.declared.ScoredTerms.{ScoredTerms}
use Rattle.kernel_verdict.specs.declared.Candidate.{Candidate}
use Rattle.kernel_verdict.specs.declared.Verdict.{Verdict}
use Rattle.kernel_verdict.specs.declared.Verdict.TheVariants.{Rejected, OverBudget, NonPositive, Eligible}

-- D19. The terms of a model whose cost is within the budget: 3 where the score is at most that of 0, else 4
unfoldable pub by_score : ScoredTerms → Verdict
by_score t = below (2 ^ 63) t.score (Eligible t) (NonPositive t)

-- D3, D14, D19. A gate that fails, then the budget, then the utility
unfoldable pub verdict_in : Pricing → KernelInput → KernelModel → Verdict
verdict_in pr q m =
    let cost = cost_of pr.rounding m q in
    below 0 (gate_of m q) (Rejected (gate_of m q))
    (below q.budget_limit_microunits cost (OverBudget cost) (by_score (terms_with pr m cost)))

-- D23. The counts with one more record
unfoldable pub counted_of : RejectionHistogram → Verdict → RejectionHistogram
counted_of c (Rejected gate) = raised_by c (gate_reason gate)
counted_of c (OverBudget cost) = raised_by c 108
counted_of c (NonPositive t) = raised_by c 109
counted_of c (Eligible t) = c

-- D22. A model as it enters the ranking
unfoldable pub entering_of : KernelModel → ℕ → ScoredTerms → Candidate
entering_of m place t =
    record {
      model_id = m.model_id;
      model_index = place;
      quality_bps = m.quality_bps;
      cost = t.cost_microunits;
      score = t.score;
    }
