-- The slot that an edit writes.
use Rattle.std.specs.Prelude.{ℕ, ◌<◌, ◌%◌, ◌≡◌, List, [], length, Result}
use Rattle.rules.specs.Limits.{record_bytes}
use Rattle.rules.specs.Records.{records_in}
use Rattle.rules.specs.Refused.{Answer, refused, answered, unless}
use Rattle.rules.specs.Numbers.{told_number}
use Rattle.rules.specs.Slots.{lowest_free}
use Rattle.rules.specs.Edits.{spent_faults, add_faults, slot_or}
use Rattle.rules.specs.declared.records.PolicySnapshot.{PolicySnapshot}
use Rattle.rules.specs.declared.refusal.Refusal.{Refusal}

abbrev pub told_slot : Result ℕ Refusal → Answer ℕ
told_slot r = told_number r

-- S5. Where a record with an id is added, once it has its own length
unfoldable pub slot_to_take : PolicySnapshot → List ℕ → ℕ → Answer ℕ
slot_to_take p bank id = unless (add_faults p bank id) refused (slot_or 28 (lowest_free bank))

-- Where there is a slot, it is one of the bank's whole slots, and the epoch can be raised
unfoldable pub Writable : Answer ℕ → PolicySnapshot → List ℕ → Type 0
Writable (refused f) p bank = Unit {0}
Writable (answered place) p bank = (place < records_in (length bank)) × (length bank % record_bytes ≡ 0) × (spent_faults p ≡ [])
