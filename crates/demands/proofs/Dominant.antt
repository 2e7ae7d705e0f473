-- The dominant reason: no count is above its own, and none after it equals it. Assumes nothing.
use Rattle.rules.proofs.Kit.{◌≤◌, ◌<◌, ◌≡◌, refl, ap, subst, Bool, true, false, cond, List, [], ◌∷◌, ◌++◌, foldl, arith, le_refl, ltb-true, ltb-false, ltb}
use Rattle.rules.specs.{Choice.below, Order.Each, Count.Weight, Count.weight, Count.weights, Count.heavier, Count.dominant_of}
use Rattle.rules.specs.{declared.decision.RejectionHistogram.RejectionHistogram}
use Rattle.rules.proofs.Choices.{below-no}
use Rattle.demands.specs.Ranked.{LastLargest}

-- a smaller one after the first leaves the last of the largest
smaller_second : (r w x : Weight) (xs : List Weight) → x.count < w.count → LastLargest r (w ∷ xs) → LastLargest r (w ∷ x ∷ xs)
smaller_second r w x xs h l = go l.before l.whole l.none_larger
  where
    go : (before : List Weight) → w ∷ xs ≡ before ++ r ∷ l.after → Each (λ v. v.count ≤ r.count) before → LastLargest r (w ∷ x ∷ xs)
    go [] e a =
        let q : w ≡ r = cc in
        let t : xs ≡ l.after = cc in
        record { before = []; after = x ∷ l.after; whole = cc; none_larger = tt; all_smaller = (subst (λ (y : Weight). x.count < y.count) q h, l.all_smaller) }
    go (b ∷ bs) e a =
        let q : w ≡ b = cc in
        let t : xs ≡ bs ++ r ∷ l.after = cc in
        let s : x.count < b.count = subst (λ (y : Weight). x.count < y.count) q h in
        record { before = b ∷ x ∷ bs; after = l.after; whole = cc; none_larger = (a.0, (omega (arith, a.0), a.1)); all_smaller = l.all_smaller }

first_at_most : (w : Weight) (xs : List Weight) → w.count ≤ (foldl heavier w xs).count
unfolding heavier below
first_at_most w [] = le_refl w.count
first_at_most w (x ∷ xs) = go (ltb x.count w.count) refl (first_at_most w xs) (first_at_most x xs)
  where
    go : (t : Bool) → ltb x.count w.count ≡ t → w.count ≤ (foldl heavier w xs).count → x.count ≤ (foldl heavier x xs).count
        → w.count ≤ (foldl heavier (cond t w x) xs).count
    go true e a b = a
    go false e a b = omega (arith, ltb-false x.count w.count e)

-- what `heavier` leaves of a list is the last of its largest
pub heaviest_last : (w : Weight) (xs : List Weight) → LastLargest (foldl heavier w xs) (w ∷ xs)
unfolding heavier below
heaviest_last w [] = record { before = []; after = []; whole = refl; none_larger = tt; all_smaller = tt }
heaviest_last w (x ∷ xs) = go (ltb x.count w.count) refl (heaviest_last w xs) (heaviest_last x xs) (first_at_most x xs)
  where
    go : (t : Bool) → ltb x.count w.count ≡ t → LastLargest (foldl heavier w xs) (w ∷ xs) → LastLargest (foldl heavier x xs) (x ∷ xs)
        → x.count ≤ (foldl heavier x xs).count → LastLargest (foldl heavier (cond t w x) xs) (w ∷ x ∷ xs)
    go true e a b h = smaller_second (foldl heavier w xs) w x xs (ltb-true x.count w.count e) a
    go false e a b h =
        record {
          before = w ∷ b.before;
          after = b.after;
          whole = ap (λ l. w ∷ l) b.whole;
          none_larger = (
            omega (arith, ltb-false x.count w.count e),
            b.none_larger,
          );
          all_smaller = b.all_smaller;
        }

-- the fold's start, a count of 0, yields to whatever stands first
start_yields : (w : Weight) → heavier (weight 0 102) w ≡ w
unfolding heavier
start_yields w = below-no w.count 0 (weight 0 102) w (omega arith)

from_start : (w : Weight) (xs : List Weight) → LastLargest (foldl heavier (weight 0 102) (w ∷ xs)) (w ∷ xs)
from_start w xs = rw (start_yields w) (heaviest_last w xs)

-- Demand 2. The dominant reason is that of one of the nine weights: none before it has a larger count, every one after it has a smaller
-- one
pub dominant_last_largest : (c : RejectionHistogram) → (w : Weight) × LastLargest w (weights c) × (dominant_of c ≡ w.reason)
unfolding dominant_of
dominant_last_largest c =
    let w : Weight = foldl heavier (weight 0 102) (weights c) in
    (w, from_start _ _, refl)

-- Demand 2. Where all nine counts are 0 it is 102
pub dominant_of_none : (c : RejectionHistogram) → Each (λ w. w.count ≡ 0) (weights c) → dominant_of c ≡ 102
unfolding dominant_of heavier below
dominant_of_none c h =
    rw (
      h.0,
      h.1.0,
      h.1.1.0,
      h.1.1.1.0,
      h.1.1.1.1.0,
      h.1.1.1.1.1.0,
      h.1.1.1.1.1.1.0,
      h.1.1.1.1.1.1.1.0,
      h.1.1.1.1.1.1.1.1.0,
    )
