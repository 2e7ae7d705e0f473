-- How wide a product is, and a number and its two limbs. Assumes nothing.
use Rattle.rules.proofs.Kit.{ℕ, ◌+◌, ◌-◌, ◌*◌, ◌/◌, ◌%◌, ◌<◌, ◌≤◌, ◌^◌, ◌≡◌, mul-le-mul, arith}
use lib.Pow.{le_ones}
use Rattle.rules.specs.{Wide.limbs, Wide.val, Wide.wide_of, declared.wide.Wide.Wide}

-- numbers of j and of k bits multiply to no more than the highest two do
pub product_le : (j k : ℕ) {a b : ℕ} → a < 2 ^ j → b < 2 ^ k → a * b ≤ (2 ^ j - 1) * (2 ^ k - 1)
product_le j k p q = mul-le-mul (le_ones j p) (le_ones k q)

-- a number's limbs say it
pub wide_val : (n : ℕ) → val (wide_of n) ≡ n
unfolding limbs wide_of
wide_val n = omega arith

-- and two limbs are those of the number that they say
pub wide_limbs : (hi lo : ℕ) → lo < 2 ^ 64 → wide_of (limbs hi lo) ≡ record { hi = hi; lo = lo }
unfolding limbs wide_of
wide_limbs hi lo h =
    let e : (hi * 2 ^ 64 + lo) / 2 ^ 64 ≡ hi = omega arith in
    let f : (hi * 2 ^ 64 + lo) % 2 ^ 64 ≡ lo = omega arith in
    λ i. record { hi = e i; lo = f i }

pub wide_back : (w : Wide) → w.lo < 2 ^ 64 → wide_of (val w) ≡ w
wide_back w h = wide_limbs w.hi w.lo h
