-- A product divided where one factor is split at the divisor: the factor that is left to multiply and divide is below the divisor, so that no wide
-- number has to be divided. Over any divisor. Assumes nothing.
use Rattle.rules.proofs.Kit.{◌≡◌, ap, ◌∙◌, ℕ, ◌+◌, ◌*◌, ◌/◌, ◌%◌, ◌<◌, div-add-mod', arith}
use native.Mathlib.Nat.{add-mul-div_right}

module _ (d : ℕ) (positive : 0 < d) where
  -- a times n, and something more: n is n / d whole divisors and n % d
  pub split_one : (a n c : ℕ) → (a * n + c) / d ≡ a * (n / d) + (a * (n % d) + c) / d
  split_one a n c =
      ap (λ s. s / d) {x = a * n + c} {y = a * (n % d) + c + a * (n / d) * d} (omega (arith, ap (λ k. a * k) (div-add-mod' n d)))
      ∙ (add-mul-div_right (a * (n % d) + c) (a * (n / d)) positive ∙ omega arith)

  -- two products, each split, and something more
  pub split-two : (a n b m c : ℕ) → (a * n + b * m + c) / d ≡ a * (n / d) + b * (m / d) + (a * (n % d) + b * (m % d) + c) / d
  split-two a n b m c =
      ap (λ s. s / d) {x = a * n + b * m + c} {y = a * n + (b * m + c)} (omega arith)
      ∙ split_one a n (b * m + c)
      ∙ ap (λ s. a * (n / d) + s / d) {x = a * (n % d) + (b * m + c)} {y = b * m + (a * (n % d) + c)} (omega arith)
      ∙ ap (λ s. a * (n / d) + s) (split_one b m (a * (n % d) + c))
      ∙ ap (λ s. a * (n / d) + (b * (m / d) + s / d)) {x = b * (m % d) + (a * (n % d) + c)} {y = a * (n % d) + b * (m % d) + c} (omega arith)
      ∙ omega arith
