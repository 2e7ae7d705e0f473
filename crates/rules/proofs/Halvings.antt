-- Laws of the halving, over the side and over any test p: its steps, what a search answers by cases, and how many passes it takes. Assumes nothing.
use Rattle.rules.proofs.Kit.{◌≡◌, refl, sym, ap, ◌∙◌, Bool, true, false, ℕ, zero, suc, ◌+◌, ◌-◌, ◌/◌, ◌^◌, ◌≤◌, ◌<◌, two-pow-succ, dec_lt, arith, lt-ltb}
use Rattle.rules.proofs.Kit.{le-ltb}
use Rattle.rules.specs.{declared.boundary.Bound.Bound, Halving.At, Halving.Nothing}
use Rattle.rules.specs.{Halving.Side, Halving.Lowest, Halving.Highest, Halving.first_tried, Halving.middle, Halving.kept_low, Halving.kept_high}
use Rattle.rules.specs.{Halving.Halved, Halving.one_pass, Halving.halve_in, Halving.halve, Halving.passes_of, Halving.search_of, Halving.far_end}
use Rattle.rules.specs.{Halving.later_by, Halving.search_after_far_end, Levers.plain}

-- a test holds or not, and the equation is kept
pub data Truth (b : Bool) : Type 0 where
  is : b ≡ true → Truth b
  isnt : b ≡ false → Truth b

pub truth : (b : Bool) → Truth b
truth true = is refl
truth false = isnt refl

-- THE HALF THAT IS KEPT, from a to z, is a part of the range and at most half as wide
pub record Kept (low high mid a z : ℕ) : Type 0 where
  pub mid-low : low ≤ mid
  pub mid-high : mid ≤ high
  pub lower : low ≤ a
  pub ordered : a ≤ z
  pub upper : z ≤ high
  pub narrow : z - a ≤ (high - low) / 2

pub kept : (s : Side) (b : Bool) (low high : ℕ) → low < high
    → Kept low high (middle s low high) (kept_low s b low (middle s low high)) (kept_high s b (middle s low high) high)
kept Lowest true low high h = omega arith
kept Lowest false low high h = omega arith
kept Highest true low high h = omega arith
kept Highest false low high h = omega arith

module _ (s : Side) (p : ℕ → Bool) where
  -- one step, with fuel
  in_end : (d low high : ℕ) → high ≤ low → halve_in s p d low high ≡ record { at = low; passes = 0 }
  unfolding halve_in
  in_end zero low high h = refl
  in_end (suc d) low high h = rw (le-ltb low high h)

  in_step : (d low high : ℕ) (b : Bool) → low < high → p (middle s low high) ≡ b
      → halve_in s p (suc d) low high ≡ one_pass (halve_in s p d (kept_low s b low (middle s low high)) (kept_high s b (middle s low high) high))
  unfolding halve_in
  in_step d low high b h e = rw (lt-ltb low high h, e)

  -- as much fuel as the width is enough
  fuel : (d e low high : ℕ) → high ≤ low + d → high ≤ low + e → halve_in s p d low high ≡ halve_in s p e low high
  fuel zero e low high hd he = in_end zero low high (omega arith) ∙ sym (in_end e low high (omega arith))
  fuel (suc d) zero low high hd he = in_end (suc d) low high (omega arith) ∙ sym (in_end zero low high (omega arith))
  fuel (suc d) (suc e) low high hd he = go (dec_lt low high) (λ a b. fuel d e a b)
    where
      go : Dec (low < high) → ((a b : ℕ) → b ≤ a + d → b ≤ a + e → halve_in s p d a b ≡ halve_in s p e a b)
          → halve_in s p (suc d) low high ≡ halve_in s p (suc e) low high
      go (yes h) ih =
          let k = kept s (p (middle s low high)) low high h in
          in_step d low high _ h refl ∙ ap one_pass (ih _ _ (omega arith) (omega arith)) ∙ sym (in_step e low high _ h refl)
      go (no h) ih = in_end (suc d) low high (omega arith) ∙ sym (in_end (suc e) low high (omega arith))

  -- the two laws of the halving
  pub halve-end : (low high : ℕ) → high ≤ low → halve s p low high ≡ record { at = low; passes = 0 }
  halve-end low high h = in_end (high - low) low high h

  pub halve-step : (low high : ℕ) (b : Bool) → low < high → p (middle s low high) ≡ b
      → halve s p low high ≡ one_pass (halve s p (kept_low s b low (middle s low high)) (kept_high s b (middle s low high) high))
  halve-step low high b h e =
      let k = kept s b low high h in
      fuel (high - low) (suc (high - low)) low high (omega arith) (omega arith)
      ∙ in_step (high - low) low high b h e
      ∙ ap one_pass (fuel _ _ _ _ (omega arith) (omega arith))

  -- the same, where the middle m is computed in another way
  pub halve-at : (low high : ℕ) {m : ℕ} (b : Bool) → low < high → m ≡ middle s low high → p m ≡ b
      → halve s p low high ≡ one_pass (halve s p (kept_low s b low m) (kept_high s b m high))
  halve-at low high b h q e = rw q (halve-step low high b h (rw q at e))

  -- at most k halvings where the width is below 2 ^ k
  pub halve-passes : (k low high : ℕ) → high < low + 2 ^ k → (halve s p low high).passes ≤ k
  halve-passes zero low high h = omega (arith, ap (λ (r : Halved). r.passes) (halve-end low high (omega arith)))
  halve-passes (suc k) low high h = go (dec_lt low high) (λ a b. halve-passes k a b)
    where
      go : Dec (low < high) → ((a b : ℕ) → b < a + 2 ^ k → (halve s p a b).passes ≤ k) → (halve s p low high).passes ≤ suc k
      go (yes l) ih =
          let m = middle s low high in
          let n = kept s (p m) low high l in
          let i = ih (kept_low s (p m) low m) (kept_high s (p m) m high) (omega (arith, two-pow-succ k)) in
          omega (arith, ap (λ (r : Halved). r.passes) (halve-step low high (p m) l refl))
      go (no l) ih = omega (arith, ap (λ (r : Halved). r.passes) (halve-end low high (omega arith)))

-- nothing found is no boundary, and a boundary is one number
none_found : {b n k : ℕ} → Nothing k ≡ At b n → ⊥
none_found e = let z : ◌≡◌ {A = ℕ} 0 1 = cc (ap (λ (r : Bound). r.boundary) e) in omega arith

at-boundary : {b c n k : ℕ} → At b n ≡ At c k → b ≡ c
at-boundary e = cc (ap (λ (r : Bound). r.boundary) e)

module _ (s : Side) (p : ℕ → Bool) where
  -- what a search answers, by cases
  pub search-empty : (low high : ℕ) → high < low → search_of s p low high ≡ Nothing 0
  unfolding search_of
  search-empty low high h = rw (lt-ltb high low h)

  pub search_no : (low high : ℕ) → low ≤ high → p (first_tried s low high) ≡ false → search_of s p low high ≡ Nothing 1
  unfolding search_of
  search_no low high h e = rw (le-ltb high low h, e)

  pub search-yes : (low high : ℕ) → low ≤ high → p (first_tried s low high) ≡ true
      → search_of s p low high ≡ At (halve s p low high).at ((halve s p low high).passes + 1)
  unfolding search_of
  search-yes low high h e = rw (le-ltb high low h, e)

  -- an answer At comes from a first end that wins
  pub search-came : (low high b n : ℕ) → search_of s p low high ≡ At b n
      → (low ≤ high) × (p (first_tried s low high) ≡ true) × (b ≡ (halve s p low high).at) × (n ≡ (halve s p low high).passes + 1)
  search-came low high b n e = go (dec_lt high low) (truth (p (first_tried s low high)))
    where
      go : Dec (high < low) → Truth (p (first_tried s low high))
          → (low ≤ high) × (p (first_tried s low high) ≡ true) × (b ≡ (halve s p low high).at) × (n ≡ (halve s p low high).passes + 1)
      go (yes h) t = absurd (none_found (sym (search-empty low high h) ∙ e))
      go (no h) (is q) = let l : low ≤ high = omega arith in let y = search-yes low high l q in (l, q, at-boundary (sym e ∙ y), ap passes_of (sym e ∙ y))
      go (no h) (isnt q) = absurd (none_found (sym (search_no low high (omega arith) q) ∙ e))

  -- at most 1 + k passes where the width is below 2 ^ k
  pub search-passes : (k low high b n : ℕ) → high < low + 2 ^ k → search_of s p low high ≡ At b n → n ≤ 1 + k
  search-passes k low high b n w e = let g = search-came low high b n e in omega (arith, halve-passes s p k low high w)

  -- the same of any answer, also where nothing is found
  pub few : (k low high : ℕ) {r : Bound} → r ≡ search_of s p low high → high < low + 2 ^ k → passes_of r ≤ 1 + k
  few k low high {r} e w = go (dec_lt high low) (truth (p (first_tried s low high)))
    where
      go : Dec (high < low) → Truth (p (first_tried s low high)) → passes_of r ≤ 1 + k
      go (yes h) t = omega (arith, ap passes_of (e ∙ search-empty low high h))
      go (no h) (is q) =
          let y = search-yes low high (omega arith) q in
          omega (arith, ap passes_of (e ∙ y), search-passes k low high _ _ w y)
      go (no h) (isnt q) = omega (arith, ap passes_of (e ∙ search_no low high (omega arith) q))

  -- what a margin answers, by cases
  pub margin-none : (low high : ℕ) → p (far_end s low high) ≡ true → search_after_far_end s p low high ≡ Nothing 1
  unfolding search_after_far_end
  margin-none low high e = rw e

  pub margin-some : (low high : ℕ) → p (far_end s low high) ≡ false → search_after_far_end s p low high ≡ later_by 1 (search_of s p low high)
  unfolding search_after_far_end
  margin-some low high e = rw e

  -- and so many passes, one more
  pub far-few : (k low high : ℕ) {r : Bound} → r ≡ search_after_far_end s p low high → high < low + 2 ^ k → passes_of r ≤ 2 + k
  far-few k low high {r} e w = go (truth (p (far_end s low high)))
    where
      go : Truth (p (far_end s low high)) → passes_of r ≤ 2 + k
      go (is f) = omega (arith, ap passes_of (e ∙ margin-none low high f))
      go (isnt f) = omega (arith, ap passes_of (e ∙ margin-some low high f), few k low high {r = search_of s p low high} refl w)

-- A LEVER'S PASSES ARE ITS SEARCH'S
pub plain_passes : (lever current : ℕ) (r : Bound) → (plain lever current r).passes ≡ passes_of r
plain_passes lever current r = refl
