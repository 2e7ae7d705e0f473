-- The terms of a model under a pricing.
use Rattle.std.specs.Prelude.{ℕ, ◌+◌, ◌-◌, ◌*◌}
use Rattle.rules.specs.Utility.{share_of}
use Rattle.rules.specs.Wide.{val, wide_of}
use Rattle.rules.specs.declared.records.KernelModel.{KernelModel}
use Rattle.rules.specs.declared.verdict.UtilityTerms.{UtilityTerms}
use Rattle.rules.specs.declared.wide.Wide.{Wide}
use Rattle.pricing.specs.declared.Pricing.{Pricing}
use Rattle.pricing_terms.specs.declared.ScoredTerms.{ScoredTerms}
use Rattle.pricing_terms.specs.Score.{unscored, score_of}

-- D19. Four terms, and the score of the first less the others
unfoldable pub scored_terms : ℕ → Wide → ℕ → ℕ → ScoredTerms
scored_terms quality risk cost latency =
    record {
      quality_adjusted = wide_of quality;
      risk_penalty = risk;
      cost_microunits = cost;
      latency_penalty = wide_of latency;
      score = score_of quality (val risk + (cost + latency));
    }

-- D16, D18, D19, F1. The terms of a model, its cost given
unfoldable pub terms_with : Pricing → KernelModel → ℕ → ScoredTerms
terms_with pr m cost =
    scored_terms (share_of pr.value pr.confidence_bps m.quality_bps) pr.risk_penalty cost
    ((m.p95_latency_ms - pr.latency_allowance_ms) * pr.latency_pen_per_ms)

-- the same terms with the utility that the score stands for
unfoldable pub utility_terms_of : ScoredTerms → UtilityTerms
utility_terms_of t =
    record {
      quality_adjusted = t.quality_adjusted;
      risk_penalty = t.risk_penalty;
      cost_microunits = t.cost_microunits;
      latency_penalty = t.latency_penalty;
      utility = unscored t.score;
    }
