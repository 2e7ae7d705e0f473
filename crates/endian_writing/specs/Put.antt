-- Bytes written into a list at a position.
use Rattle.std.specs.Prelude.{ℕ, ◌+◌, List, ◌++◌, length, take, drop}

-- A list with bytes written from a position on; all others are as they were
unfoldable pub patched : List ℕ → ℕ → List ℕ → List ℕ
patched list at bytes = take at list ++ (bytes ++ drop (at + length bytes) list)
