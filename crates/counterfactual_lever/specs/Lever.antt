-- How high a lever's values go.
use Rattle.std.specs.Prelude.{ℕ}
use Rattle.rules.specs.Choice.{equal}
use Rattle.rules.specs.Limits.{max_u32, max_u64}

-- The highest value that the field of a lever holds: quality and ceiling 16 bits, latency 32, a scale 64, enabled 8
unfoldable pub widest : ℕ → ℕ
widest lever = equal lever 1 65535 (equal lever 2 max_u32 (equal lever 3 max_u64 (equal lever 4 65535 255)))
