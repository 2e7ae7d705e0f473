-- `pricing_terms::worth::terms_exact` meets its contract: no sum of the four terms comes near 2 ^ 126. Assumes nothing.
use Rattle.rules.proofs.Kit.{◌≡◌, ap, ap₂, ◌∙◌, ◌+◌, ◌*◌, arith}
use Rattle.rules.specs.{Wide.val, Wide.limbs}
use Rattle.pricing_terms.specs.{Score.score_of, Terms.scored_terms}
use Rattle.rules.proofs.Limbs.{wide_val}
use Rattle.pricing.proofs.Values.{share_lt, wide_is}
use Rattle.pricing_terms.proofs.worth.terms_exact.Goals as goal

pub score_wide-requires : goal.score_wide-requires
score_wide-requires c =
    let s = c.args in
    omega (
      arith,
      share_lt {v = s.value} {a = s.confidence} {b = s.bps} (omega arith) (omega arith) (omega arith),
      ap val c.share-quality.ensures ∙ wide_val _,
    )

pub returns : goal.returns
unfolding scored_terms
returns c =
    let s = c.args in
    let late : val c.product-latency.result ≡ s.ms * s.penalty = rw (← c.from.ensures) c.product-latency.ensures in
    let loss : val c.add-loss.result ≡ limbs s.hi s.lo + (s.cost + s.ms * s.penalty) = omega arith in
    let e = c.score_wide.ensures ∙ ap₂ score_of (ap val c.share-quality.ensures ∙ wide_val _) loss in
    let w = wide_is c.product-latency.result _ (omega arith) late in
    λ i. record {
      quality_adjusted = c.share-quality.ensures i;
      risk_penalty = record { hi = s.hi; lo = s.lo };
      cost_microunits = s.cost;
      latency_penalty = w i;
      score = e i;
    }
