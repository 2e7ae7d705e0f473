-- The ids of listed records, those before a place, and whether they rise.
use Rattle.std.specs.Prelude.{ℕ, ◌+◌, ◌*◌, ◌≤◌, ◌≡◌, Bool, true, false, List, [], ◌∷◌, map, length, take}
use Rattle.rules.specs.Limits.{record_bytes}
use Rattle.rules.specs.Choice.{below}
use Rattle.rules.specs.Records.{Listed, listed_of}

-- The ids, in the order of the records
abbrev pub ids_of : List Listed → List ℕ
ids_of ls = map (λ l. l.model.model_id) ls

-- Those of the records before a place of a bank
abbrev pub earlier_ids : List ℕ → ℕ → List ℕ
earlier_ids bank place = take place (ids_of (listed_of bank))

-- Whether each id is above the one before it, and the first is at least so much
unfoldable pub rises_from : ℕ → List ℕ → Bool
rises_from least [] = true
rises_from least (id ∷ ids) = below id least false (rises_from (id + 1) ids)

-- What is known where the record at a place is looked at: it is there, and whether the bank's ids rise
pub record Looked (bank : List ℕ) (place : ℕ) (rising : Bool) : Type 0 where
  pub inside : record_bytes * place + record_bytes ≤ length bank
  pub known : rising ≡ rises_from 0 (ids_of (listed_of bank))
