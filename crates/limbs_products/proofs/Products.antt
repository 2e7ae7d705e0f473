-- The product of two numbers of two digits, by the digits, in any base. Assumes nothing.
use Rattle.rules.proofs.Kit.{◌≡◌, refl, sym, ◌∙◌, ℕ, ◌+◌, ◌*◌, ◌/◌, ◌%◌, ◌-◌, ◌^◌, ◌<◌, ◌≤◌, add_assoc, add_comm, add_left_comm, mul_assoc, mul_comm}
use Rattle.rules.proofs.Kit.{mul_left_comm, mul-add, add-mul, mul-le-mul, mod-lt, div-add-mod'}
use lib.{Pow.le_ones, Pow.pow_pos}

-- two digits of k bits multiply to no more than the highest two do
digits_product : (k : ℕ) {a b : ℕ} → a < 2 ^ k → b < 2 ^ k → a * b ≤ (2 ^ k - 1) * (2 ^ k - 1)
digits_product k p q = mul-le-mul (le_ones k p) (le_ones k q)

-- so do the digits of two numbers, each of two digits of k bits
pub record Halves (k u v : ℕ) : Type 0 where
  pub ll : u % 2 ^ k * (v % 2 ^ k) ≤ (2 ^ k - 1) * (2 ^ k - 1)
  pub hl : u / 2 ^ k * (v % 2 ^ k) ≤ (2 ^ k - 1) * (2 ^ k - 1)
  pub lh : u % 2 ^ k * (v / 2 ^ k) ≤ (2 ^ k - 1) * (2 ^ k - 1)
  pub hh : u / 2 ^ k * (v / 2 ^ k) ≤ (2 ^ k - 1) * (2 ^ k - 1)

pub halves : (k u v : ℕ) → u / 2 ^ k < 2 ^ k → v / 2 ^ k < 2 ^ k → Halves k u v
halves k u v p q =
    let l = mod-lt u (pow_pos k) in
    let m = mod-lt v (pow_pos k) in
    record { ll = digits_product k l m; hl = digits_product k p m; lh = digits_product k l q; hh = digits_product k p q }

expand : (P a₁ a₀ b₁ b₀ : ℕ) → (a₁ * P + a₀) * (b₁ * P + b₀) ≡ a₁ * b₁ * (P * P) + a₁ * b₀ * P + a₀ * b₁ * P + a₀ * b₀
expand P a₁ a₀ b₁ b₀ = simp (mul-add, add-mul, mul_assoc, mul_comm, mul_left_comm, add_assoc, add_comm, add_left_comm) refl

-- a product is the four products of its factors' digits, each at its place
pub four_products : (P a b : ℕ) → a * b ≡ a / P * (b / P) * (P * P) + a / P * (b % P) * P + a % P * (b / P) * P + a % P * (b % P)
four_products P a b = (λ i. sym (div-add-mod' a P) i * sym (div-add-mod' b P) i) ∙ expand P (a / P) (a % P) (b / P) (b % P)
