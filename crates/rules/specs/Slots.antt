-- Document 02, i: a bank whose models are swapped. A slot of it holds a live record or is free; any other is refused.
use Rattle.std.specs.Prelude.{ℕ, Bool, true, not, ◌&&◌, List, [], ◌∷◌, ◌++◌, eqb, replicate}
use Rattle.std.proofs.Math.Option.{Option}
use Rattle.rules.specs.Limits.{record_bytes}
use Rattle.rules.specs.Choice.{equal}
use Rattle.rules.specs.Records.{Listed, listed_of}
use Rattle.rules.specs.Refused.{Faults, fault, refuse_if, bank_faults}
use Rattle.rules.specs.Listing.{Reading, first_listed, place_of}
use Rattle.rules.specs.Trust.{id_of, records_of}

-- S1. A free slot: id 0, and every other byte 0
abbrev pub free_slot : List ℕ
free_slot = replicate record_bytes 0

-- S1. Whether every byte is 0
unfoldable pub is_blank : List ℕ → Bool
is_blank [] = true
is_blank (b ∷ bs) = eqb b 0 && is_blank bs

-- S2. A slot with id 0 and another byte set
unfoldable pub slot_faults : List (List ℕ) → Faults
slot_faults [] = []
slot_faults (r ∷ rs) = refuse_if (eqb (id_of r) 0 && not (is_blank r)) (fault 34) ++ slot_faults rs

-- S2. Of a bank: 1, 2, 34
unfoldable pub live_faults : List ℕ → Faults
live_faults bank = bank_faults bank ++ slot_faults (records_of bank)

-- S3. Of any things with an id, those that are live: whatever has id 0 is left out
unfoldable pub live_by : {A : Type 0} → (A → ℕ) → List A → List A
live_by id [] = []
live_by id (x ∷ xs) = equal (id x) 0 (live_by id xs) (x ∷ live_by id xs)

-- S3. Of slots, and of listed records, each of which keeps its place
abbrev pub live_slots : List (List ℕ) → List (List ℕ)
live_slots rs = live_by id_of rs

abbrev pub live_of : List Listed → List Listed
live_of ls = live_by (λ l. l.model.model_id) ls

abbrev pub live_in : List ℕ → List Listed
live_in bank = live_of (listed_of bank)

-- S3. A bank read so: its live records and nothing else, the slot as place
abbrev pub live_records : List ℕ → Reading
live_records bank = record { faults = live_faults bank; list = live_in bank }

-- S4. The slot of the first live record with an id
unfoldable pub slot_with : ℕ → List ℕ → Option ℕ
slot_with id bank = place_of (first_listed id (live_in bank))

-- S5. The lowest free slot, where 34 finds none: the first with id 0
unfoldable pub lowest_free : List ℕ → Option ℕ
lowest_free bank = place_of (first_listed 0 (listed_of bank))
