-- How far 64 bits are enough.
use Rattle.std.specs.Prelude.{ℕ, ◌^◌}
use Rattle.rules.specs.Choice.{below}

-- what both prices stay below for the tokens of both directions to be paid by 64 bits
unfoldable pub price_limit : ℕ → ℕ → ℕ
price_limit input_tokens output_tokens = below input_tokens (2 ^ 24) (below output_tokens (2 ^ 24) (2 ^ 40) (2 ^ 32)) (2 ^ 32)
