-- What the crate's definitions are by the rules of document 01. Assumes nothing.
use Rattle.rules.proofs.Kit.{◌≡◌, refl, ap, ◌∙◌, ℕ, ◌+◌}
use Rattle.rules.specs.{Utility.held, Utility.quality_term_of, Utility.risk_term_of, Utility.charged_ms, Utility.latency_term_of}
use Rattle.rules.specs.{Utility.exact_utility_of, Utility.utility_of, Wide.val, declared.records.KernelModel.KernelModel, declared.records.KernelInput.KernelInput}
use Rattle.rules.specs.{declared.records.PolicySnapshot.PolicySnapshot}
use Rattle.pricing.specs.Pricing.{pricing_of}
use Rattle.pricing_terms.specs.{declared.ScoredTerms.ScoredTerms, Score.unscored, Score.score_of, Terms.scored_terms, Terms.terms_with}
use Rattle.rules.proofs.Limbs.{wide_val}
use Rattle.pricing_terms.proofs.Scores.{score_stands, three_losses}

-- terms that are those of the rules at a cost, and a score that stands for the rules' utility
pub record Ruled (p : PolicySnapshot) (m : KernelModel) (q : KernelInput) (price : ℕ) (t : ScoredTerms) : Type 0 where
  pub quality : val t.quality_adjusted ≡ quality_term_of m q
  pub risk : val t.risk_penalty ≡ risk_term_of p q
  pub cost : t.cost_microunits ≡ price
  pub latency : val t.latency_penalty ≡ latency_term_of p m
  pub utility : unscored t.score ≡ utility_of p m q price

module _ (p : PolicySnapshot) (m : KernelModel) (q : KernelInput) (cost : ℕ) where
  -- the score of the rules' terms stands for the rules' utility
  worth : unscored (score_of (quality_term_of m q) (risk_term_of p q + (cost + latency_term_of p m))) ≡ utility_of p m q cost
  unfolding utility_of exact_utility_of
  worth = score_stands _ _ ∙ ap held (three_losses (quality_term_of m q) (risk_term_of p q) cost (latency_term_of p m))

  -- the terms under the pricing of a policy and a request are the rules'
  pub terms-rule : Ruled p m q cost (terms_with (pricing_of p q) m cost)
  unfolding terms_with scored_terms pricing_of quality_term_of latency_term_of charged_ms
  terms-rule =
      record {
        quality = wide_val _;
        risk = wide_val _;
        cost = refl;
        latency = wide_val _;
        utility = rw (wide_val (risk_term_of p q)) worth;
      }
