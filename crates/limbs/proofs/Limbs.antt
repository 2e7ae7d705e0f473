-- Numbers of two digits in any base P: how their sum and order go by the digits. Assumes nothing.
use Rattle.rules.proofs.Kit.{◌≡◌, refl, sym, ap, Bool, true, false, ℕ, ◌+◌, ◌-◌, ◌*◌, ◌^◌, ◌<◌, ◌≤◌, mul-le-mul_right, lt_of_le_of_lt, lt_of_mul-lt-mul_right}
use Rattle.rules.proofs.Kit.{lt_of_lt_of_le, le_of_suc-le-suc, arith, ltb, lt-ltb, le-ltb}
use lib.{Arith.digits_lt}
use Rattle.rules.specs.Wide.{limbs}

-- ---- two digits as one number, L

pub record Base (P : ℕ) (L : ℕ → ℕ → ℕ) : Type 0 where
  pub is : (h l : ℕ) → L h l ≡ h * P + l

-- two limbs are two digits in the base 2 ^ 64
pub limbs_is : (h l : ℕ) → limbs h l ≡ h * 2 ^ 64 + l
unfolding limbs
limbs_is h l = refl

pub in_limbs : Base (2 ^ 64) limbs
in_limbs = record { is = limbs_is }

module _ {P : ℕ} {L : ℕ → ℕ → ℕ} (base : Base P L) where
  -- with an upper digit of 0 the number is its lower digit, and else is no less than the base
  pub one_digit : (h l : ℕ) → h ≡ 0 → L h l ≡ l
  one_digit h l e = omega (arith, base.is h l, ap (λ n. n * P) e)

  pub two_digits : (h l : ℕ) → (h ≡ 0 → ⊥) → P ≤ L h l
  two_digits h l n = omega (arith, base.is h l, mul-le-mul_right {m = 1} {n = h} P (omega arith))

  module _ (ah al bh bl : ℕ) where
    -- the number with the digits s and t is the sum, with what is carried into s
    pub sum : (k s t : ℕ) → s ≡ ah + bh + k → t + k * P ≡ al + bl → L s t ≡ L ah al + L bh bl
    sum k s t e f = omega (arith, base.is s t, base.is ah al, base.is bh bl, ap (λ n. n * P) e)

    -- the number with the digits s and t is the rest, with what is borrowed from ah
    pub rest : (k s t : ℕ) → s + bh + k ≡ ah → t + bl ≡ al + k * P → L s t ≡ L ah al - L bh bl
    rest k s t e f = omega (arith, base.is s t, base.is ah al, base.is bh bl, ap (λ n. n * P) e)

    -- a bound on the sum bounds the sum of the upper digits, with what is carried
    pub sum_room : (m k t : ℕ) → t + k * P ≡ al + bl → L ah al + L bh bl < m * P → ah + bh + k < m
    sum_room m k t e h = lt_of_mul-lt-mul_right P (lt_of_le_of_lt (omega (arith, base.is ah al, base.is bh bl)) h)

    -- a number that is not above another has room in its upper digit for the other's, with what is borrowed
    pub rest_room : (k t : ℕ) → t < P → t + bl ≡ al + k * P → L bh bl ≤ L ah al → bh + k ≤ ah
    rest_room k t p e h = le_of_suc-le-suc (lt_of_mul-lt-mul_right P (omega (arith, base.is ah al, base.is bh bl)))

    -- level upper digits leave a difference to the lower ones, and else the upper ones decide
    pub same_upper : ah ≡ bh → L ah al + bl ≡ L bh bl + al
    same_upper e = omega (arith, base.is ah al, base.is bh bl, ap (λ n. n * P) e)

    pub upper_lt : al < P → ah < bh → L ah al < L bh bl
    upper_lt p q = rw (base.is ah al, base.is bh bl) (lt_of_lt_of_le (digits_lt q p) (omega arith))

-- ---- tests

-- a truth value that tells whether x is below y is the test for it
pub decides : (t : Bool) (x y : ℕ) → (t ≡ true → x < y) → (t ≡ false → y ≤ x) → t ≡ ltb x y
decides true x y f g = sym (lt-ltb x y (f refl))
decides false x y f g = sym (le-ltb x y (g refl))
