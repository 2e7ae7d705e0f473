-- The catalogue epoch among a policy's bytes.
use Rattle.std.specs.Prelude.{ℕ, List}
use Rattle.rules.specs.Bytes.{bytes_of}
use Rattle.endian_writing.specs.Put.{patched}

-- Where it begins, and its bytes: a u64
abbrev pub epoch_start : ℕ
epoch_start = 8

abbrev pub epoch_size : ℕ
epoch_size = 8

-- S7. A policy's bytes with another catalogue epoch, and every other byte as it was
abbrev pub with_epoch : List ℕ → ℕ → List ℕ
with_epoch policy epoch = patched policy epoch_start (bytes_of epoch_size epoch)
