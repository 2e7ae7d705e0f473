-- The number that two limbs of 64 bits stand for, and the limbs of a number.
use Rattle.std.specs.Prelude.{ℕ, ◌+◌, ◌*◌, ◌/◌, ◌%◌, ◌^◌, Bool, true, false, ℤ, pos, neg_ℤ}
use Rattle.rules.specs.declared.wide.Wide.{Wide}
use Rattle.rules.specs.declared.wide.SignedWide.{SignedWide}

-- kept shut, so that the 2 ^ 64 stays out of sight where nobody looks inside
unfoldable pub limbs : ℕ → ℕ → ℕ
limbs hi lo = hi * 2 ^ 64 + lo

abbrev pub val : Wide → ℕ
val w = limbs w.hi w.lo

unfoldable pub wide_of : ℕ → Wide
wide_of n = record { hi = n / 2 ^ 64; lo = n % 2 ^ 64 }

-- with its sign
abbrev pub signed : Bool → ℕ → ℤ
signed true n = neg_ℤ (pos n)
signed false n = pos n

abbrev pub val_z : SignedWide → ℤ
val_z s = signed s.negative (val s.size)
