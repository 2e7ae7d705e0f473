-- The difference of two numbers as an integer: by their order, and as the difference of integers. Assumes nothing.
use Rattle.rules.proofs.Kit.{◌≡◌, refl, sym, ap, ◌∙◌, ℕ, zero, suc, zero-le, ◌-◌, ◌≤◌, ◌<◌, arith, lt-ltb, le-ltb, pos, negsuc, sub_ℕ, ◌-ℤ◌}

pub sub-below : (a b : ℕ) → a < b → sub_ℕ a b ≡ negsuc (b - suc a)
sub-below a b h = simp (lt-ltb a b h)

pub sub_above : (a b : ℕ) → b ≤ a → sub_ℕ a b ≡ pos (a - b)
sub_above a b h = simp (le-ltb a b h)

pub sub_is : (a b : ℕ) → pos a -ℤ pos b ≡ sub_ℕ a b
sub_is a zero = ap pos (omega arith) ∙ sym (sub_above a 0 zero-le)
sub_is a (suc b) = refl
