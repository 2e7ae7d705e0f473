-- Bytes written into a buffer at a position.
use Rattle.std.specs.Prelude.{ℕ, ◌+◌, List, length}
use Rattle.std.proofs.Math.Option.{Option, none, some}
use Rattle.rules.specs.Choice.{at_least}
use Rattle.endian_writing.specs.Put.{patched}

-- Bytes written into a buffer from a position on: the next position, which is the one after them, and the buffer, as it was but for them.
-- None where the buffer has no room for them
unfoldable pub placed : List ℕ → ℕ → List ℕ → Option (ℕ × List ℕ)
placed before at bytes = at_least (length before) (at + length bytes) (some (at + length bytes, patched before at bytes)) none
