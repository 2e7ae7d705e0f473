-- The order of integers as a type, and what keeps it: taking numbers away, and holding within i64. Assumes nothing.
use Rattle.rules.proofs.Kit.{ℕ, zero, suc, ◌+◌, ◌≤◌, ◌<◌, ◌≡◌, refl, sym, ap, Bool, true, false, cond, false≢true, dec_lt, arith, lt-ltb, le-ltb, le-leb, lt-leb}
use Rattle.rules.proofs.Kit.{leb-false, ltb, ℤ, pos, negsuc, sub_ℕ, ◌-ℤ◌, lt_z, le_z}
use Rattle.rules.proofs.Integers.{sub_is}
use Rattle.rules.specs.{Choice.higher, Choice.lower, Utility.held}

-- x is at most y
abbrev pub AtMost : ℤ → ℤ → Type 0
AtMost (pos a) (pos b) = a ≤ b
AtMost (pos a) (negsuc b) = ⊥
AtMost (negsuc a) (pos b) = Unit {0}
AtMost (negsuc a) (negsuc b) = b ≤ a

-- ---- less taken away leaves no less

difference_up : (m n a b : ℕ) → m ≤ n → b ≤ a → AtMost (sub_ℕ m a) (sub_ℕ n b)
difference_up m n a b h k = go (dec_lt m a) (dec_lt n b)
  where
    go : Dec (m < a) → Dec (n < b) → AtMost (sub_ℕ m a) (sub_ℕ n b)
    go (yes s) (yes t) = rw (lt-ltb m a s, lt-ltb n b t) (omega arith)
    go (yes s) (no t) = rw (lt-ltb m a s, le-ltb n b (omega arith)) tt
    go (no s) (yes t) = absurd (omega arith)
    go (no s) (no t) = rw (le-ltb m a (omega arith), le-ltb n b (omega arith)) (omega arith)

below_difference : (k n b : ℕ) → b ≤ k + 1 → AtMost (negsuc k) (sub_ℕ n b)
below_difference k n b h = go (dec_lt n b)
  where
    go : Dec (n < b) → AtMost (negsuc k) (sub_ℕ n b)
    go (yes s) = rw (lt-ltb n b s) (omega arith)
    go (no s) = rw (le-ltb n b (omega arith)) tt

-- what is left, by the sign
from_negsuc : (n a : ℕ) → negsuc n -ℤ pos a ≡ negsuc (n + a)
from_negsuc n zero = rw (lt-ltb 0 (suc n) (omega arith)) (ap negsuc (omega arith))
from_negsuc n (suc a) = ap negsuc (omega arith)

-- Where x is at most y, and no more is taken from y, x less what is taken is at most y less what is taken
pub less_taken : (x y : ℤ) (a b : ℕ) → AtMost x y → b ≤ a → AtMost (x -ℤ pos a) (y -ℤ pos b)
less_taken (pos m) (pos n) a b h k = rw (sub_is m a, sub_is n b) (difference_up m n a b h k)
less_taken (pos m) (negsuc n) a b h k = absurd h
less_taken (negsuc m) (pos n) a b h k = rw (from_negsuc m a, sub_is n b) (below_difference (m + a) n b (omega arith))
less_taken (negsuc m) (negsuc n) a b h k = rw (from_negsuc m a, from_negsuc n b) (omega arith)

-- Holding within i64 keeps the order
pub held_up : (x y : ℤ) → AtMost x y → AtMost (held x) (held y)
held_up (pos m) (pos n) h = omega arith
held_up (pos m) (negsuc n) h = absurd h
held_up (negsuc m) (pos n) h = tt
held_up (negsuc m) (negsuc n) h = omega arith

-- ---- the tests

pub at_most_tests : (x y : ℤ) → AtMost x y → le_z x y ≡ true
at_most_tests (pos m) (pos n) h = le-leb m n h
at_most_tests (pos m) (negsuc n) h = absurd h
at_most_tests (negsuc m) (pos n) h = refl
at_most_tests (negsuc m) (negsuc n) h = le-leb n m h

not_above : (x y : ℤ) → AtMost x y → lt_z y x ≡ false
not_above (pos m) (pos n) h = le-ltb n m h
not_above (pos m) (negsuc n) h = absurd h
not_above (negsuc m) (pos n) h = refl
not_above (negsuc m) (negsuc n) h = le-ltb m n h

-- What is at least something positive is positive
pub positive_up : (x y : ℤ) → AtMost x y → le_z x (pos 0) ≡ false → le_z y (pos 0) ≡ false
positive_up (pos m) (pos n) h e = lt-leb n 0 (omega (arith, leb-false m 0 e))
positive_up (pos m) (negsuc n) h e = absurd h
positive_up (negsuc m) y h e = absurd (false≢true (sym e))

false_either_way : (t : Bool) → cond t false false ≡ false
false_either_way true = refl
false_either_way false = refl

-- A key that is no better and keys after it that are not better either: not better
pub higher_not : (x y : ℤ) (rest : Bool) → AtMost x y → rest ≡ false → higher x y rest ≡ false
unfolding higher
higher_not x y rest h e = rw (not_above x y h, e) (false_either_way (lt_z x y))

pub lower_not : (a b : ℕ) (rest : Bool) → b ≤ a → rest ≡ false → lower a b rest ≡ false
unfolding lower
lower_not a b rest h e = rw (le-ltb a b h, e) (false_either_way (ltb b a))
