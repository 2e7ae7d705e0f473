-- A limb's division, bit by bit: what a turn keeps, in any base 2 * H and then at 2 ^ 64, and how two limbs make a
-- quotient. Assumes nothing.
use Rattle.rules.proofs.Kit.{◌≡◌, sym, ap, ◌∙◌, ℕ, ◌+◌, ◌*◌, ◌/◌, ◌%◌, ◌-◌, ◌^◌, ◌<◌, ◌≤◌, div-add-mod', pow-suc, add-one, arith}
use lib.{Arith.digits_div, Pow.pow_mono}
use Rattle.rules.specs.Wide.{limbs}

-- one bit more doubles
twice : (i : ℕ) → 2 ^ (i + 1) ≡ 2 ^ i * 2
twice i = ap (λ n. 2 ^ n) (add-one i) ∙ pow-suc 2 i

-- N has been read of the dividend X, and s is to come: the highest bit of s joins N, and the others move up
read : (H X i s N M : ℕ) → N * (2 * H) + s ≡ X * 2 ^ i → M ≡ N * 2 + s / H → M * (2 * H) + s % H * 2 ≡ X * 2 ^ (i + 1)
read H X i s N M e f = ap (λ n. n * (2 * H) + s % H * 2) f ∙ omega (arith, ap (λ n. n * 2) (div-add-mod' s H), ap (λ n. X * n) (twice i))

-- once a whole limb has moved up, all of it has been read
all_read : (B X N s : ℕ) → s < B → N * B + s ≡ X * B → N ≡ X
all_read B X N s p e = sym (digits_div N p) ∙ ap (λ n. n / B) {x = N * B + s} {y = X * B + 0} (omega arith) ∙ digits_div X {r = 0} (omega arith)

-- a turn with the bit b, where d is not in the remainder, and where it is, and then is in it once
bit_le : {s : ℕ} → s < 2 ^ 64 → s / 2 ^ 63 ≤ 1
bit_le l = omega arith

module _ (d q r b p n : ℕ) where
  sum_zero : p ≡ q * 2 → n ≡ r * 2 + b → p * d + n ≡ (q * d + r) * 2 + b
  sum_zero e f = omega (arith, ap (λ k. k * d) e)

  sum_one : d ≤ r * 2 + b → p ≡ q * 2 + 1 → n ≡ r * 2 + b - d → p * d + n ≡ (q * d + r) * 2 + b
  sum_one h e f = omega (arith, ap (λ k. k * d) e)

  once : r < d → b ≤ 1 → n ≡ r * 2 + b - d → n < d
  once h l f = omega arith

-- two divisions, one after the other: the upper digit's leaves r to the lower digit's
joined : (B d hi lo q r t u : ℕ) → q * d + r ≡ hi → t * d + u ≡ r * B + lo → u < d → q * B + t ≡ (hi * B + lo) / d
joined B d hi lo q r t u e f p =
    sym (digits_div (q * B + t) p) ∙ ap (λ n. n / d) {x = (q * B + t) * d + u} {y = hi * B + lo} (omega (arith, ap (λ n. n * B) e))

-- after i turns: q and r are the quotient and the remainder by d of what has been read of X, and s is to come
pub record Turned (X d q r s i : ℕ) : Type 0 where
  pub whole : limbs (q * d + r) s ≡ X * 2 ^ i
  pub below : r < d
  pub room : q < 2 ^ i
  pub limb : s < 2 ^ 64

pub unturned : (d r s : ℕ) → r < d → s < 2 ^ 64 → Turned (limbs r s) d 0 r s 0
unturned d r s p l =
    record { whole = ap (λ n. limbs n s) {x = 0 * d + r} {y = r} (omega arith) ∙ omega arith; below = p; room = omega arith; limb = l }

module _ {X d q r s i : ℕ} (t : Turned X d q r s i) where
  -- the remainder with the next bit is small, and the quotient has room for that bit's place
  pub next_small : d < 2 ^ 32 → r * 2 + s / 2 ^ 63 < 2 ^ 64
  next_small p = omega (arith, bit_le t.limb)

  pub next-room : i < 64 → q < 2 ^ 63
  next-room p = omega (arith, pow_mono {i = i} {j = 63} (omega arith))

  next : (M : ℕ) → M ≡ (q * d + r) * 2 + s / 2 ^ 63 → limbs M (s % 2 ^ 63 * 2) ≡ X * 2 ^ (i + 1)
  unfolding limbs
  next M = read (2 ^ 63) X i s (q * d + r) M t.whole

  -- a turn to the quotient p and the remainder n, which gives the quotient a zero, and one that gives it a one
  module _ (p n : ℕ) where
    pub turn_zero : r * 2 + s / 2 ^ 63 < d → p ≡ q * 2 → n ≡ r * 2 + s / 2 ^ 63 → Turned X d p n (s % 2 ^ 63 * 2) (i + 1)
    turn_zero h e f = record {
      whole = next (p * d + n) (sum_zero d q r _ p n e f);
      below = omega arith;
      room = omega (arith, twice i);
      limb = omega arith;
    }

    pub turn_one : d ≤ r * 2 + s / 2 ^ 63 → p ≡ q * 2 + 1 → n ≡ r * 2 + s / 2 ^ 63 - d → Turned X d p n (s % 2 ^ 63 * 2) (i + 1)
    turn_one h e f =
        record {
          whole = next (p * d + n) (sum_one d q r _ p n h e f);
          below = once d q r _ p n t.below (bit_le t.limb) f;
          room = omega (arith, twice i);
          limb = omega arith;
        }

  -- after the last turn
  last : limbs (q * d + r) s ≡ X * 2 ^ 64 → q * d + r ≡ X
  unfolding limbs
  last = all_read (2 ^ 64) X (q * d + r) s t.limb

  pub all_turned : i ≡ 64 → q * d + r ≡ X
  all_turned e = last (t.whole ∙ ap (λ n. X * 2 ^ n) e)

-- two limbs, one after the other: nothing is carried to the upper one, which leaves r to the lower one
pub two_quotients : (d hi lo q r t u : ℕ) → q * d + r ≡ limbs 0 hi → t * d + u ≡ limbs r lo → u < d → limbs q t ≡ limbs hi lo / d
unfolding limbs
two_quotients d hi lo q r t u e = joined (2 ^ 64) d hi lo q r t u (omega arith)
