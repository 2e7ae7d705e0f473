-- `pricing_terms::worth::utility_of_score` meets its contract, by the sign. Assumes nothing.
use Rattle.rules.proofs.Kit.{◌∙◌, w64, to_z-of_z}
use Rattle.pricing_terms.proofs.{Scores.score_bits}
use Rattle.pricing_terms.proofs.worth.utility_of_score.Goals as goal

pub returns : goal.returns
returns c =
    let r = c.cast_signed in to_z-of_z w64 r.result (record { sfits = r.type_inv }) ∙ r.ensures ∙ score_bits c.args.score c.ranges.score.fits
