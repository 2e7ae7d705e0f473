-- What document 01 tells of a verdict determines it, its wide terms being made of limbs. Assumes nothing.
use Rattle.rules.proofs.Kit.{◌<◌, ◌^◌, ◌≡◌, refl, [], ◌∷◌, get_or}
use Rattle.rules.specs.{Wide.wide_of, Numbers.Verdict, Numbers.told_verdict, declared.verdict.UtilityTerms.UtilityTerms}
use Rattle.rules.specs.{declared.verdict.CandidateVerdict.CandidateVerdict}
use Rattle.rules.proofs.Limbs.{wide_back}
use Rattle.rules.specs.declared.verdict.CandidateVerdict.TheVariants as verdict

-- the low limbs of a verdict's terms are limbs, as those of every value of the type are
pub record Limbed (t : UtilityTerms) : Type 0 where
  pub quality : t.quality_adjusted.lo < 2 ^ 64
  pub risk : t.risk_penalty.lo < 2 ^ 64
  pub latency : t.latency_penalty.lo < 2 ^ 64

abbrev pub InLimbs : CandidateVerdict → Type 0
InLimbs (verdict.Rejected gate measured limit) = Unit {0}
InLimbs (verdict.OverBudget cost limit) = Unit {0}
InLimbs (verdict.NonPositiveUtility t) = Limbed t
InLimbs (verdict.Eligible t) = Limbed t

abbrev pub terms_from : Verdict → UtilityTerms
terms_from v =
    record {
      quality_adjusted = wide_of v.first;
      risk_penalty = wide_of v.second;
      cost_microunits = v.cost;
      latency_penalty = wide_of v.latency;
      utility = v.utility;
    }

abbrev pub verdict_from : Verdict → CandidateVerdict
verdict_from v =
    get_or
    (verdict.Eligible (terms_from v)
    ∷ verdict.Rejected v.gate v.first v.second
    ∷ verdict.OverBudget v.first v.second
    ∷ verdict.NonPositiveUtility (terms_from v)
    ∷ [])
    v.kind
    (verdict.Eligible (terms_from v))

pub verdict_back : (v : CandidateVerdict) → InLimbs v → verdict_from (told_verdict v) ≡ v
verdict_back (verdict.Rejected gate measured limit) h = refl
verdict_back (verdict.OverBudget cost limit) h = refl
verdict_back (verdict.NonPositiveUtility t) h =
    rw (wide_back t.quality_adjusted h.quality, wide_back t.risk_penalty h.risk, wide_back t.latency_penalty h.latency)
verdict_back (verdict.Eligible t) h =
    rw (wide_back t.quality_adjusted h.quality, wide_back t.risk_penalty h.risk, wide_back t.latency_penalty h.latency)
