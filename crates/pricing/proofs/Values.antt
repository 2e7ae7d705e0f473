-- How large terms are, and which limbs a number has. Assumes nothing.
use Rattle.rules.proofs.Kit.{◌≡◌, sym, ap, ◌∙◌, ℕ, ◌*◌, ◌/◌, ◌^◌, ◌<◌, lt_of_not-le, le_of_suc-le-suc, mul_assoc, arith, dec_lt}
use Rattle.rules.proofs.{Limbs.product_le, Limbs.wide_back, Choices.below-yes, Choices.below-no}
use Rattle.rules.specs.{Limits.scaled_basis_points, Limits.max_u64, Utility.share_of, Wide.val, Wide.wide_of, declared.wide.Wide.Wide}
use Rattle.pricing.specs.Pricing.{prefix_of}

-- a value times two shares has less than 70 bits
pub share_lt : {v a b : ℕ} → v < 2 ^ 64 → a < 2 ^ 16 → b < 2 ^ 16 → share_of v a b < 2 ^ 70
unfolding share_of
share_lt {v} {a} p q r = omega (arith, product_le 80 16 {a = v * a} (omega (arith, product_le 64 16 p q)) r)

-- the shares may be multiplied first
pub share_of_product : (v a b : ℕ) → v * (a * b) / scaled_basis_points ≡ share_of v a b
unfolding share_of
share_of_product v a b = ap (λ n. n / scaled_basis_points) (sym (mul_assoc v a b))

-- ---- a prefix

prefix_cases : (v a : ℕ) → prefix_of v a < max_u64 → Dec (v < 2 ^ 48) → prefix_of v a ≡ v * a
unfolding prefix_of
prefix_cases v a h (yes p) = below-yes v (2 ^ 48) _ _ p
prefix_cases v a h (no n) = absurd (omega (arith, below-no v (2 ^ 48) (v * a) max_u64 (le_of_suc-le-suc (lt_of_not-le n))))

-- a prefix below the highest u64 is the value times the share, so what is computed from it is the term
pub prefix_share : (v a b n : ℕ) → n ≡ prefix_of v a → n < max_u64 → n * b / scaled_basis_points ≡ share_of v a b
unfolding share_of
prefix_share v a b n e h = ap (λ k. k * b / scaled_basis_points) (e ∙ prefix_cases v a (omega arith) (dec_lt v (2 ^ 48)))

-- ---- the limbs of a number

-- limbs that stand for n are the limbs of n
pub wide_is : (w : Wide) (n : ℕ) → w.lo < 2 ^ 64 → val w ≡ n → w ≡ wide_of n
wide_is w n p e = sym (wide_back w p) ∙ ap wide_of e
