-- A utility as a score: 2 ^ 63 higher, so that the lowest i64 is 0, zero is 2 ^ 63, and the order is that of u64.
use Rattle.std.specs.Prelude.{ℕ, suc, min, ◌+◌, ◌-◌, ◌^◌, ℤ, pos, negsuc}
use Rattle.std.proofs.Math.IntN.{sub_ℕ}
use Rattle.rules.specs.Limits.{max_u64}

-- the utility that a score stands for
unfoldable pub unscored : ℕ → ℤ
unscored s = sub_ℕ s (2 ^ 63)

-- the score of a utility
unfoldable pub scored : ℤ → ℕ
scored (pos n) = 2 ^ 63 + n
scored (negsuc n) = 2 ^ 63 - suc n

-- D19. The score of what is gained less what is lost, held within i64
unfoldable pub score_of : ℕ → ℕ → ℕ
score_of gain loss = min max_u64 (gain + 2 ^ 63 - loss)
