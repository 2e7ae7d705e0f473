-- So many of a bank's records are read: all of them, or, where those are fewer, its live ones. One number tells a function which of the two it is.
use Rattle.std.specs.Prelude.{ℕ, ◌≤◌, ◌<◌, ◌≡◌, List, [], length}
use Rattle.rules.specs.Limits.{max_catalog_models}
use Rattle.rules.specs.Choice.{below}
use Rattle.rules.specs.Records.{Listed, listed_of, records_in}
use Rattle.rules.specs.Trust.{records_of}
use Rattle.rules.specs.Slots.{slot_faults, live_in}

-- S3. The live records, where so many are fewer than there are slots, else every record
unfoldable pub among_of : ℕ → List ℕ → List Listed
among_of many bank = below many (records_in (length bank)) (live_in bank) (listed_of bank)

-- What a caller has seen of a bank: it isn't too long, and where fewer are read, no slot is refused and so many are live
pub record Among (many : ℕ) (bank : List ℕ) : Type 0 where
  pub few : records_in (length bank) ≤ max_catalog_models
  pub most : many ≤ records_in (length bank)
  pub clear : many < records_in (length bank) → slot_faults (records_of bank) ≡ []
  pub live : many < records_in (length bank) → many ≡ length (live_in bank)
