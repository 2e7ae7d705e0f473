-- Where a text that was printed ends.
use Rattle.std.specs.Prelude.{ℕ}
use Rattle.rules.specs.Refused.{Answer, refused, answered}

unfoldable pub end_of : Answer ℕ → ℕ
end_of (refused f) = 0
end_of (answered n) = n
