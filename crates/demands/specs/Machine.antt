-- The Rust's arithmetic on numbers that are not negative: u64 that wraps, u64 that is checked, u128 that saturates.
use Rattle.std.specs.Prelude.{ℕ, min, ◌+◌, ◌-◌, ◌*◌, ◌%◌, ◌^◌, Bool, true, false}
use Rattle.std.proofs.Math.Option.{Option, none, some}
use Rattle.rules.specs.Choice.{below}

-- u64::wrapping_mul, u64::wrapping_add
unfoldable pub wrapping_mul : ℕ → ℕ → ℕ
wrapping_mul a b = a * b % 2 ^ 64

unfoldable pub wrapping_add : ℕ → ℕ → ℕ
wrapping_add a b = (a + b) % 2 ^ 64

-- A number, where 64 bits hold it
unfoldable pub checked : ℕ → Option ℕ
checked n = below n (2 ^ 64) (some n) none

-- u64::checked_mul, u64::checked_add
abbrev pub checked_mul : ℕ → ℕ → Option ℕ
checked_mul a b = checked (a * b)

abbrev pub checked_add : ℕ → ℕ → Option ℕ
checked_add a b = checked (a + b)

-- Option::is_some
unfoldable pub is_some : {A : Type 0} → Option A → Bool
is_some none = false
is_some (some a) = true

-- u128::saturating_mul, u128::saturating_add
unfoldable pub saturating_mul : ℕ → ℕ → ℕ
saturating_mul a b = min (2 ^ 128 - 1) (a * b)

unfoldable pub saturating_add : ℕ → ℕ → ℕ
saturating_add a b = min (2 ^ 128 - 1) (a + b)
