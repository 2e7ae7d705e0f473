-- `pricing::settle::pricing_of` meets its contract, field by field. Assumes nothing.
use Rattle.rules.proofs.Kit.{ap, ◌∙◌, w64, SFits, to_z-of_z, rules}
use Rattle.rules.specs.{Utility.or_zero, Utility.share_of, Utility.risk_term_of, Wide.wide_of}
use Rattle.pricing.specs.Pricing.{prefix_of, pricing_of}
use Rattle.pricing.proofs.settle.pricing_of.Goals as goal

pub returns : goal.returns
unfolding pricing_of risk_term_of
returns c =
    let s = c.args in
    let f : SFits w64 s.input.business_value_microunits = record { sfits = search rules } in
    let g = c.gained-value.ensures ∙ ap or_zero (to_z-of_z w64 s.input.business_value_microunits f) in
    λ i. record {
      value = g i;
      confidence_bps = s.input.confidence_bps;
      quality_prefix = (c.prefix_of.ensures ∙ ap (λ v. prefix_of v s.input.confidence_bps) g) i;
      risk_penalty = (c.share.ensures ∙ ap (λ v. wide_of (share_of v s.input.risk_bps s.policy.risk_penalty_multiplier_bps)) g) i;
      latency_pen_per_ms = s.policy.latency_penalty_microunits_per_ms;
      rounding = s.policy.rounding;
      latency_allowance_ms = s.policy.latency_allowance_ms;
    }
