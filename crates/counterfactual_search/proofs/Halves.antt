-- A halving on its way: what is left of the range, the passes so far, and that it ends within. Over the side and over any test p. Assumes nothing.
use Rattle.rules.proofs.Kit.{ℕ, zero, suc, ◌+◌, ◌^◌, ◌≤◌, ◌<◌, dec_lt, arith, ◌≡◌, refl, sym, ap, ◌∙◌, Bool}
use Rattle.rules.specs.{Halving.Side, Halving.Lowest, Halving.Highest, Halving.first_tried, Halving.far_end, Halving.middle, Halving.kept_low, Halving.kept_high}
use Rattle.rules.specs.{Halving.Halved, Halving.one_pass, Halving.halve, Halving.found_at, Halving.At}
use Rattle.rules.proofs.Halvings.{Kept, kept, halve-end, halve-step, halve-at, halve-passes}
use Rattle.counterfactual_lever.specs.Lever.{widest}
use Rattle.counterfactual_search.specs.Search.{Within}

module _ (s : Side) (p : ℕ → Bool) where
  -- A HALVING ENDS WITHIN ITS RANGE
  pub halve-within : (d low high : ℕ) → high ≤ low + d → low ≤ high → (halve s p low high).at ≤ high
  halve-within zero low high h o = omega (arith, ap (λ (r : Halved). r.at) (halve-end s p low high (omega arith)))
  halve-within (suc d) low high h o = go (dec_lt low high) (λ a z. halve-within d a z)
    where
      go : Dec (low < high) → ((a z : ℕ) → z ≤ a + d → a ≤ z → (halve s p a z).at ≤ z) → (halve s p low high).at ≤ high
      go (yes l) ih =
          let m = middle s low high in
          let k = kept s (p m) low high l in
          let i = ih (kept_low s (p m) low m) (kept_high s (p m) m high) (omega arith) (omega arith) in
          omega (arith, ap (λ (r : Halved). r.at) (halve-step s p low high (p m) l refl))
      go (no l) ih = omega (arith, ap (λ (r : Halved). r.at) (halve-end s p low high (omega arith)))

module _ (s : Side) (p : ℕ → Bool) (low high : ℕ) where
  -- THE HALF FROM a TO z IS LEFT after so many passes, the end tried first among them
  pub record Left (a z passes : ℕ) : Type 0 where
    pub ordered : a ≤ z
    pub inside : z ≤ high
    pub ends : (halve s p low high).at ≡ (halve s p a z).at
    pub counted : (halve s p low high).passes + 1 ≡ passes + (halve s p a z).passes

  pub at_first : low ≤ high → Left low high 1
  at_first o = record { ordered = o; inside = omega arith; ends = refl; counted = omega arith }

  -- one step: the middle, whether it won, and the half that is kept
  pub one_step : {a z passes mid : ℕ} (b : Bool) → Left a z passes → a < z → mid ≡ middle s a z → p mid ≡ b
      → Left (kept_low s b a mid) (kept_high s b mid z) (passes + 1)
  one_step {a} {z} {passes} {mid} b left l em y =
      let k : Kept a z mid (kept_low s b a mid) (kept_high s b mid z) = rw em (kept s b a z l) in
      let h : halve s p a z ≡ one_pass (halve s p (kept_low s b a mid) (kept_high s b mid z)) = halve-at s p a z b l em y in
      record {
        ordered = k.ordered;
        inside = omega (arith, k.upper, left.inside);
        ends = left.ends ∙ ap (λ (r : Halved). r.at) h;
        counted = omega (arith, left.counted, ap (λ (r : Halved). r.passes) h);
      }

  -- the middle lies below the end
  pub step_middle : {a z passes mid : ℕ} → Left a z passes → a < z → mid ≡ middle s a z → mid ≤ high
  step_middle {a} {z} left l em = let k = kept s (p (middle s a z)) a z l in omega (arith, em, k.mid-high, left.inside)

  -- where nothing is left to halve, that is what was found
  pub at_last : {a z passes : ℕ} → Left a z passes → z ≤ a → At a passes ≡ found_at (halve s p low high)
  at_last {a} {z} {passes} left e =
      let h = halve-end s p a z e in
      let x : a ≡ (halve s p low high).at = sym (left.ends ∙ ap (λ (r : Halved). r.at) h) in
      let y : passes ≡ (halve s p low high).passes + 1 = omega (arith, left.counted, ap (λ (r : Halved). r.passes) h) in
      λ i. At (x i) (y i)

  -- THE PASSES ARE FEW: 33 at most over 32 bits
  pub few_so_far : {a z passes : ℕ} → Left a z passes → high < 2 ^ 32 → passes ≤ 33
  few_so_far left w = omega (arith, left.counted, halve-passes s p 32 low high (omega arith))

-- ---- the ends of a range, as the code computes them

module _ (s : Side) {lever low high : ℕ} (o : low ≤ high) (w : Within lever low high) where
  pub first_fits : {first : ℕ} → first ≡ first_tried s low high → first ≤ widest lever
  first_fits e = rw e (either s)
    where
      either : (s : Side) → first_tried s low high ≤ widest lever
      either Lowest = omega arith
      either Highest = omega arith

  pub far-fits : {far : ℕ} → far ≡ far_end s low high → far ≤ widest lever
  far-fits e = rw e (either s)
    where
      either : (s : Side) → far_end s low high ≤ widest lever
      either Lowest = omega arith
      either Highest = omega arith
