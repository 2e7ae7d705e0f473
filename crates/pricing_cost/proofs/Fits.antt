-- How far 64 bits are enough for what tokens cost. Assumes nothing.
use Rattle.rules.proofs.Kit.{◌≡◌, ◌∙◌, ◌⊎◌, inl, inr, ⊎_elim, ℕ, ◌+◌, ◌-◌, ◌*◌, ◌/◌, ◌^◌, ◌<◌, ◌≤◌, lt_of_not-le, le_of_suc-le-suc, arith, dec_lt}
use Rattle.rules.proofs.{Limbs.product_le, Choices.below-yes, Choices.below-no}
use Rattle.rules.specs.{Limits.cost_scale, Choice.below}
use Rattle.pricing_cost.specs.PriceLimit.{price_limit}

-- the limit of two counts of tokens: 2 ^ 40 where both are few, else 2 ^ 32
limit_cases : (t m : ℕ) → Dec (t < 2 ^ 24) → Dec (m < 2 ^ 24) → ((t < 2 ^ 24) × (m < 2 ^ 24) × (price_limit t m ≡ 2 ^ 40)) ⊎ (price_limit t m ≡ 2 ^ 32)
unfolding price_limit
limit_cases t m (yes a) (yes b) = inl (a, b, below-yes t (2 ^ 24) (below m (2 ^ 24) (2 ^ 40) (2 ^ 32)) (2 ^ 32) a ∙ below-yes m (2 ^ 24) (2 ^ 40) (2 ^ 32) b)
limit_cases t m (yes a) (no n) =
    inr (below-yes t (2 ^ 24) (below m (2 ^ 24) (2 ^ 40) (2 ^ 32)) (2 ^ 32) a
    ∙ below-no m (2 ^ 24) (2 ^ 40) (2 ^ 32) (le_of_suc-le-suc (lt_of_not-le n)))
limit_cases t m (no n) d = inr (below-no t (2 ^ 24) (below m (2 ^ 24) (2 ^ 40) (2 ^ 32)) (2 ^ 32) (le_of_suc-le-suc (lt_of_not-le n)))

limit_is : (t m : ℕ) → ((t < 2 ^ 24) × (m < 2 ^ 24) × (price_limit t m ≡ 2 ^ 40)) ⊎ (price_limit t m ≡ 2 ^ 32)
limit_is t m = limit_cases t m (dec_lt t (2 ^ 24)) (dec_lt m (2 ^ 24))

-- 64 bits hold the products of two prices below the limit; of two below half of it, also their sum
module _ (t m x y limit : ℕ) (p : t < 2 ^ 32) (q : m < 2 ^ 32) (l : limit ≡ price_limit t m) where
  pub apart_fits : x < limit → y < limit → (t * x ≤ (2 ^ 32 - 1) * (2 ^ 32 - 1)) × (m * y ≤ (2 ^ 32 - 1) * (2 ^ 32 - 1))
  apart_fits h k =
      ⊎_elim
      (λ (a, b, e). (omega (arith, product_le 24 40 {a = t} {b = x} a (omega arith)), omega (arith, product_le 24 40 {a = m} {b = y} b (omega arith))))
      (λ e. (product_le 32 32 p (omega arith), product_le 32 32 q (omega arith)))
      (limit_is t m)

  pub once-fits : x < limit / 2 → y < limit / 2 → t * x + m * y + cost_scale ≤ 2 ^ 64
  once-fits h k =
      ⊎_elim
      (λ (a, b, e). omega (arith, product_le 24 39 {a = t} {b = x} a (omega arith), product_le 24 39 {a = m} {b = y} b (omega arith)))
      (λ e. omega (arith, product_le 32 31 {a = t} {b = x} p (omega arith), product_le 32 31 {a = m} {b = y} q (omega arith)))
      (limit_is t m)
