-- Room for a scan: no place and no count of it passes 16 bits.
use Rattle.std.specs.Prelude.{ℕ, ◌+◌, ◌≤◌, ◌<◌, ◌≡◌}
use Rattle.rules.specs.Limits.{record_bytes, max_catalog_models}
use Rattle.rules.specs.Records.{records_in}
use Rattle.rules.specs.Count.{total}
use Rattle.kernel_ranking.specs.declared.state.State.{State}

-- So many bytes, the first record's place, and what is held before them
pub record Room (bytes first : ℕ) (from : State) : Type 0 where
  pub places : first + records_in bytes ≤ max_catalog_models
  pub counts : total from.counts + from.eligible + records_in bytes ≤ max_catalog_models

-- Another record's bytes in the stead of those at a place of a bank
pub record StandsIn (bytes place standing : ℕ) : Type 0 where
  pub inside : place < records_in bytes
  pub many : records_in bytes ≤ max_catalog_models
  pub one : standing ≡ record_bytes
