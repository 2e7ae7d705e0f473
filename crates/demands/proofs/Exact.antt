-- The halving is exact over any test that turns once, for both sides, and few passes are enough. Assumes nothing.
use Rattle.rules.proofs.Kit.{ℕ, zero, suc, ◌+◌, ◌-◌, ◌^◌, ◌≤◌, ◌<◌, ◌≡◌, refl, sym, ap, ◌∙◌, Bool, true, false, false≢true, ◌⊎◌, inl, inr, dec_lt, arith}
use Rattle.rules.specs.Halving.{Side, Lowest, Highest, first_tried, middle, kept_low, kept_high, halve, search_of, far_end, search_after_far_end, passes_of}
use Rattle.rules.proofs.Halvings.{Truth, is, isnt, truth, kept, halve-end, halve-step, search-empty, search_no, search-yes, few, far-few, margin-none}
use Rattle.rules.proofs.Halvings.{margin-some}
use Rattle.demands.specs.Exact.{range, In, AtOrBetter, TurnsOnce, BoundaryAt, SearchExact, FarEndExact}

-- ---- the two sides

-- a setting is at itself; of a range, the end tried first is the most favourable setting and the far end the least
pub at_itself : (s : Side) (v : ℕ) → AtOrBetter s v v
at_itself Lowest v = omega arith
at_itself Highest v = omega arith

first_best : (s : Side) (low high v : ℕ) → In (range low high) v → AtOrBetter s v (first_tried s low high)
first_best Lowest low high v h = h.1
first_best Highest low high v h = h.0

far_worst : (s : Side) (low high v : ℕ) → In (range low high) v → AtOrBetter s (far_end s low high) v
far_worst Lowest low high v h = h.0
far_worst Highest low high v h = h.1

first_in : (s : Side) (low high : ℕ) → low ≤ high → In (range low high) (first_tried s low high)
first_in Lowest low high h = (h, (omega arith))
first_in Highest low high h = ((omega arith), h)

far_in : (s : Side) (low high : ℕ) → low ≤ high → In (range low high) (far_end s low high)
far_in Lowest low high h = ((omega arith), h)
far_in Highest low high h = (h, (omega arith))

-- a setting of the range is in the half that is kept, or on the other side of the middle: where the middle wins, more favourable than all that
-- is kept, and else no more favourable than the middle
abbrev Out : Side → Bool → ℕ → ℕ → ℕ → Type 0
Out s true m c v = AtOrBetter s c v
Out s false m c v = AtOrBetter s v m

in_or_out : (s : Side) (b : Bool) (low m high c v : ℕ) → In (range low high) v → In (range (kept_low s b low m) (kept_high s b m high)) c
    → Dec (m < v) → Dec (v < m) → In (range (kept_low s b low m) (kept_high s b m high)) v ⊎ Out s b m c v
in_or_out Lowest true low m high c v h k (yes l) d = inr (omega arith)
in_or_out Lowest true low m high c v h k (no l) d = inl (omega arith)
in_or_out Lowest false low m high c v h k (yes l) d = inl (omega arith)
in_or_out Lowest false low m high c v h k (no l) d = inr (omega arith)
in_or_out Highest true low m high c v h k d (yes l) = inr (omega arith)
in_or_out Highest true low m high c v h k d (no l) = inl (omega arith)
in_or_out Highest false low m high c v h k d (yes l) = inl (omega arith)
in_or_out Highest false low m high c v h k d (no l) = inr (omega arith)

-- the end tried first of the half that is kept is known to win: it is the middle, or the range's own
first_kept : (s : Side) (p : ℕ → Bool) (b : Bool) (low m high : ℕ) → p m ≡ b → p (first_tried s low high) ≡ true
    → p (first_tried s (kept_low s b low m) (kept_high s b m high)) ≡ true
first_kept Lowest p true low m high q e = q
first_kept Lowest p false low m high q e = e
first_kept Highest p true low m high q e = q
first_kept Highest p false low m high q e = e

-- a range of one setting
alone : (s : Side) (low high v : ℕ) → high ≤ low → In (range low high) v → v ≡ low
alone s low high v h i = omega arith

alone_first : (s : Side) (low high : ℕ) → high ≤ low → low ≤ high → first_tried s low high ≡ low
alone_first Lowest low high a b = omega arith
alone_first Highest low high a b = refl

-- ---- the halving

module _ (s : Side) (p : ℕ → Bool) where
  -- p holds at b, and at no setting that is not b or better
  record Turn (low high b : ℕ) : Type 0 where
    inside : In (range low high) b
    holds : p b ≡ true
    only : (v : ℕ) → In (range low high) v → p v ≡ true → AtOrBetter s b v

  Goal : ℕ → ℕ → Type 0
  Goal low high = low ≤ high → TurnsOnce s p (range low high) → p (first_tried s low high) ≡ true → Turn low high (halve s p low high).at

  -- a part of a range turns once where the range does
  in-part : (low high a b : ℕ) → TurnsOnce s p (range low high) → low ≤ a → b ≤ high → TurnsOnce s p (range a b)
  in-part low high a b t f g u v c d = t u v ((omega arith), (omega arith)) ((omega arith), (omega arith))

  alone-exact : (low high : ℕ) → high ≤ low → Goal low high
  unfolding Goal
  alone-exact low high h l t e =
      rw (halve-end s p low high h)
      (record {
        inside = ((omega arith), l);
        holds = ap p (sym (alone_first s low high h l)) ∙ e;
        only = λ v i q. rw (alone s low high v h i) (at_itself s low);
      })

  step-exact : (b : Bool) (low high : ℕ) → low < high → p (middle s low high) ≡ b
      → Goal (kept_low s b low (middle s low high)) (kept_high s b (middle s low high) high) → Goal low high
  unfolding Goal
  step-exact b low high h q ih l t e =
      let k = kept s b low high h in
      let i = ih k.ordered (in-part low high _ _ t k.lower k.upper) (first_kept s p b low m high q e) in
      rw (halve-step s p low high b h q)
      (record { inside = omega arith; holds = i.holds; only = λ v j w. go b q i v j w (in_or_out s b low m high _ v j i.inside (dec_lt m v) (dec_lt v m)) })
    where
      m : ℕ
      m = middle s low high

      go : (b : Bool) → p m ≡ b → {c : ℕ} → Turn (kept_low s b low m) (kept_high s b m high) c → (v : ℕ) → In (range low high) v → p v ≡ true
          → In (range (kept_low s b low m) (kept_high s b m high)) v ⊎ Out s b m c v → AtOrBetter s c v
      go b q i v j w (inl k) = i.only v k w
      go true q i v j w (inr k) = k
      go false q i v j w (inr k) = absurd (false≢true (sym q ∙ t v m j (let d = kept s true low high h in (d.mid-low, d.mid-high)) k w))

  exact-in : (d low high : ℕ) → high ≤ low + d → Goal low high
  exact-in zero low high w = alone-exact low high (omega arith)
  exact-in (suc d) low high w = go (dec_lt low high) (λ a b. exact-in d a b)
    where
      go : Dec (low < high) → ((a b : ℕ) → b ≤ a + d → Goal a b) → Goal low high
      go (yes h) ih = let k = kept s (p (middle s low high)) low high h in step-exact (p (middle s low high)) low high h refl (ih _ _ (omega arith))
      go (no h) ih = alone-exact low high (omega arith)

  halve-exact : (low high : ℕ) → low ≤ high → TurnsOnce s p (range low high) → p (first_tried s low high) ≡ true
      → BoundaryAt s p (range low high) (halve s p low high).at
  unfolding Goal
  halve-exact low high l t e =
      let i = exact-in (high - low) low high (omega arith) l t e in
      record { in_range = i.inside; exactly = λ v j. (i.only v j, λ a. t _ v i.inside j a i.holds) }

  -- a test that fails at an end fails at every setting that is no more favourable
  fails : (u v : ℕ) → (p u ≡ true → p v ≡ true) → p v ≡ false → p u ≡ false
  fails u v f e = go (truth (p u))
    where
      go : Truth (p u) → p u ≡ false
      go (is q) = absurd (false≢true (sym e ∙ f q))
      go (isnt q) = q

  -- Demand 3. A SEARCH IS EXACT over any test that turns once: it finds the boundary where the test holds somewhere in the range, and
  -- nothing where it holds nowhere
  pub search-exact : (low high : ℕ) → TurnsOnce s p (range low high) → SearchExact s p (range low high) (search_of s p low high)
  search-exact low high t = go (dec_lt high low) (truth (p (first_tried s low high)))
    where
      go : Dec (high < low) → Truth (p (first_tried s low high)) → SearchExact s p (range low high) (search_of s p low high)
      go (yes h) e = rw (search-empty s p low high h) (λ v i. absurd (omega arith))
      go (no h) (is e) = let l : low ≤ high = omega arith in rw (search-yes s p low high l e) (halve-exact low high l t e)
      go (no h) (isnt e) =
          let l : low ≤ high = omega arith in
          rw (search_no s p low high l e)
          (λ v i. fails v (first_tried s low high) (t v _ i (first_in s low high l) (first_best s low high v i)) e)

  -- Demand 3. A SEARCH AFTER THE FAR END IS EXACT over any test that turns once and holds at the end tried first: it finds the last setting
  -- at which the test holds, and nothing where it holds everywhere. An empty range is one at whose far end the test holds
  pub margin-exact : (low high : ℕ) → TurnsOnce s p (range low high) → p (first_tried s low high) ≡ true → (high < low → p (far_end s low high) ≡ true)
      → FarEndExact s p (range low high) (search_after_far_end s p low high)
  margin-exact low high t e n = go (truth (p (far_end s low high))) (dec_lt high low)
    where
      go : Truth (p (far_end s low high)) → Dec (high < low) → FarEndExact s p (range low high) (search_after_far_end s p low high)
      go (is f) (yes h) = rw (margin-none s p low high f) (λ v i. absurd (omega arith))
      go (is f) (no h) =
          let l : low ≤ high = omega arith in
          rw (margin-none s p low high f) (λ v i. t _ v (far_in s low high l) i (far_worst s low high v i) f)
      go (isnt f) (yes h) = absurd (false≢true (sym f ∙ n h))
      go (isnt f) (no h) =
          let l : low ≤ high = omega arith in
          rw (margin-some s p low high f, search-yes s p low high l e) (halve-exact low high l t e, (far_end s low high, far_in s low high l, f))

  -- Demand 3. AT MOST 1 + k PASSES where the range is narrower than 2 ^ k, whatever the test
  pub search-short : (k low high : ℕ) → high - low < 2 ^ k → passes_of (search_of s p low high) ≤ 1 + k
  search-short k low high w = few s p k low high refl (omega arith)

  -- Demand 3. And one more after the far end
  pub margin-short : (k low high : ℕ) → high - low < 2 ^ k → passes_of (search_after_far_end s p low high) ≤ 2 + k
  margin-short k low high w = far-few s p k low high refl (omega arith)
