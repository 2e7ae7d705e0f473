-- A model that is nowhere less favourable does as well as the other; and each lever's settings are ordered so. Assumed for the first: the cost
-- doesn't fall where prices rise.
use Rattle.rules.proofs.Kit.{◌≤◌, refl, ap, le_refl, le_of_eq}
use Rattle.rules.specs.{Limits.ppm, Choice.equal, Numbers.Verdict, Price.Cost, Rank.better, Halving.Lowest, Halving.Highest, Levers.lever_at}
use Rattle.rules.specs.{declared.records.KernelModel.KernelModel, declared.records.KernelInput.KernelInput, declared.records.PolicySnapshot.PolicySnapshot}
use Rattle.demands.specs.Standing.{RisesWithPrices, AsGood, Favours, Ordered}
use Rattle.demands.proofs.{Integers.higher_not, Integers.lower_not, Terms.scaled_rises, Terms.scaled_at_one, Terms.utility-rises, Eligible.passes}
use Rattle.demands.proofs.{Eligible.told-terms, Eligible.stays-eligible}

-- Demand 3. A model that is nowhere less favourable does as well: it is eligible where the other is, and the other does not rank before it
pub as_good : (costs : Cost) → RisesWithPrices costs → (p : PolicySnapshot) (q : KernelInput) (y x : KernelModel) → Favours y x → AsGood costs p q y x
unfolding better
as_good costs rises p q y x f =
    let less = costs y q in
    let more = costs x q in
    let h : less ≤ more = rises q y x f.input_price f.output_price in
    record {
      id = f.id;
      eligible = λ e. ap (λ (v : Verdict). v.kind) (told-terms p q y less (stays-eligible p q y x f less more h (passes p q x more e)));
      not_after = λ e place.
          let k = passes p q x more e in
          rw (told-terms p q x more k, told-terms p q y less (stays-eligible p q y x f less more h k))
          (higher_not _ _ _ (utility-rises p q y x f less more h)
          (lower_not _ _ _ h
          (lower_not _ _ _ f.quality
          (lower_not _ _ _ (le_of_eq f.id)
          (lower_not place place _ (le_refl place) refl)))));
    }

-- ---- the levers

-- Demand 3. Quality: higher is better
pub quality_ordered : Ordered 1 Lowest
unfolding lever_at equal
quality_ordered m u v h = search le_refl

-- Demand 3. Latency: lower is better
pub latency_ordered : Ordered 2 Highest
unfolding lever_at equal
latency_ordered m u v h = search le_refl

-- Demand 3. Price scale: lower is better, and moves both prices
pub price_ordered : Ordered 3 Highest
unfolding lever_at equal
price_ordered m u v h = search (le_refl, scaled_rises)

-- Demand 3. Ceiling: higher is better
pub ceiling_ordered : Ordered 4 Lowest
unfolding lever_at equal
ceiling_ordered m u v h = search le_refl

-- ---- today's setting

-- A lever at its setting of today is nowhere less favourable
pub quality_today : (m : KernelModel) → Favours (lever_at 1 m.quality_bps m) m
unfolding lever_at equal
quality_today m = search le_refl

pub latency_today : (m : KernelModel) → Favours (lever_at 2 m.p95_latency_ms m) m
unfolding lever_at equal
latency_today m = search le_refl

pub price_today : (m : KernelModel) → Favours (lever_at 3 ppm m) m
unfolding lever_at equal
price_today m = search (le_refl, scaled_at_one)

pub ceiling_today : (m : KernelModel) → Favours (lever_at 4 m.risk_ceiling_bps m) m
unfolding lever_at equal
ceiling_today m = search le_refl
