-- `pricing_terms::worth::terms` meets its contract: the short way computes the same four terms. Assumes nothing.
use Rattle.rules.proofs.Kit.{◌∙◌, ap, ap₂, ◌*◌, arith}
use Rattle.pricing_terms.specs.Terms.{scored_terms, terms_with}
use Rattle.pricing.proofs.Values.{prefix_share}
use Rattle.pricing_terms.proofs.worth.terms.Goals as goal

pub returns-then-held-le-ZERO_SCORE : goal.returns-then-held-le-ZERO_SCORE
unfolding terms_with
returns-then-held-le-ZERO_SCORE c =
    let s = c.args in
    let quality =
    c.share_small-quality.ensures.0
    ∙ prefix_share s.pr.value s.pr.confidence_bps s.model.quality_bps s.pr.quality_prefix c.requires.prefix (omega (arith, c.if-prefix-lt-PREFIX_LIMIT.true)) in
    c.terms_small.ensures
    ∙ ap₂ (λ q late. scored_terms q s.pr.risk_penalty s.cost late) quality (ap (λ ms. ms * s.pr.latency_pen_per_ms) (c.from.ensures ∙ c.saturating_sub-ms.ensures))

pub returns : goal.returns
unfolding terms_with
returns c = rw (← c.saturating_sub-ms.ensures) c.terms_exact.ensures
