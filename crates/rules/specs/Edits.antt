-- Document 02, i: the edits of a bank by id, and the compaction: what each answers, and every byte of the bank at exit.
use Rattle.std.specs.Prelude.{ℕ, ◌+◌, ◌-◌, List, [], ◌∷◌, ◌++◌, eqb, length, replicate, set}
use Rattle.std.proofs.Math.Option.{Option, none, some}
use Rattle.rules.specs.Limits.{record_bytes, max_u64}
use Rattle.rules.specs.Refused.{Faults, fault, model_fault, refuse_if, size_faults, Answer, refused, answered, unless}
use Rattle.rules.specs.Numbers.{EditedPolicy}
use Rattle.rules.specs.Trust.{id_of, records_of, joined}
use Rattle.rules.specs.Slots.{free_slot, live_faults, live_slots, slot_with, lowest_free}
use Rattle.rules.specs.declared.records.PolicySnapshot.{PolicySnapshot}

-- ---- refusals

-- S6. Id 0 offered
unfoldable pub offered_faults : ℕ → Faults
offered_faults id = refuse_if (eqb id 0) (fault 16)

-- S6. The catalogue epoch at its largest
unfoldable pub spent_faults : PolicySnapshot → Faults
spent_faults p = refuse_if (eqb p.catalog_epoch max_u64) (fault 27)

-- S6. Adding an id that is there
abbrev pub there_faults : ℕ → Option ℕ → Faults
there_faults id none = []
there_faults id (some slot) = model_fault 12 0 id 0 ∷ []

-- S6. Of a compaction: 1, 2, 34, 27
unfoldable pub compact_faults : PolicySnapshot → List ℕ → Faults
compact_faults p bank = live_faults bank ++ spent_faults p

-- S6. Of an edit with an id: 1, 2, 34, 16, 27; of adding, then 12
unfoldable pub edit_faults : PolicySnapshot → List ℕ → ℕ → Faults
edit_faults p bank id = live_faults bank ++ (offered_faults id ++ spent_faults p)

unfoldable pub add_faults : PolicySnapshot → List ℕ → ℕ → Faults
add_faults p bank id = edit_faults p bank id ++ there_faults id (slot_with id bank)

-- S6. A record that isn't as long as a record is 22, before all of these
abbrev pub offered : List ℕ → Faults → Faults
offered r faults = size_faults (length r) record_bytes ++ faults

-- ---- the slot that is written

-- A slot, or the number that is handed back where there is none
abbrev pub slot_or : ℕ → Option ℕ → Answer ℕ
slot_or n none = refused (fault n)
slot_or n (some slot) = answered slot

-- S5, S6. Adding: the lowest free slot; 28 where there is none
unfoldable pub slot_to_add : PolicySnapshot → List ℕ → List ℕ → Answer ℕ
slot_to_add p bank r = unless (offered r (add_faults p bank (id_of r))) refused (slot_or 28 (lowest_free bank))

-- S4, S6. Replacing: the slot of the first live record with the offered one's id; 5 where there is none
unfoldable pub slot_to_replace : PolicySnapshot → List ℕ → List ℕ → Answer ℕ
slot_to_replace p bank r = unless (offered r (edit_faults p bank (id_of r))) refused (slot_or 5 (slot_with (id_of r) bank))

-- S4, S6. Removing goes by an id alone
unfoldable pub slot_to_remove : PolicySnapshot → List ℕ → ℕ → Answer ℕ
slot_to_remove p bank id = unless (edit_faults p bank id) refused (slot_or 5 (slot_with id bank))

-- ---- edits

-- S7. The policy with its catalogue epoch one higher
unfoldable pub raised_of : PolicySnapshot → PolicySnapshot
raised_of p = record {
  policy_epoch = p.policy_epoch;
  catalog_epoch = p.catalog_epoch + 1;
  hard_risk_limit_bps = p.hard_risk_limit_bps;
  minimum_confidence_bps = p.minimum_confidence_bps;
  risk_penalty_multiplier_bps = p.risk_penalty_multiplier_bps;
  latency_penalty_microunits_per_ms = p.latency_penalty_microunits_per_ms;
  rounding = p.rounding;
  latency_allowance_ms = p.latency_allowance_ms;
}

abbrev pub raised_with : PolicySnapshot → ℕ → EditedPolicy
raised_with p number = record { policy = raised_of p; number = number }

-- S7. What an edit answers by its slot, and the bank at exit: other bytes, or the same again, in that slot; or none written
abbrev pub raised_at : Answer ℕ → PolicySnapshot → Answer EditedPolicy
raised_at (refused f) p = refused f
raised_at (answered slot) p = answered (raised_with p slot)

abbrev pub written_at : Answer ℕ → List ℕ → List ℕ → List ℕ
written_at (refused f) r bank = bank
written_at (answered slot) r bank = joined (set (records_of bank) slot r)

-- S5. `add`
unfoldable pub add_of : PolicySnapshot → List ℕ → List ℕ → Answer EditedPolicy
add_of p bank r = raised_at (slot_to_add p bank r) p

unfoldable pub add_bank : PolicySnapshot → List ℕ → List ℕ → List ℕ
add_bank p bank r = written_at (slot_to_add p bank r) r bank

-- S4. `replace`
unfoldable pub replace_of : PolicySnapshot → List ℕ → List ℕ → Answer EditedPolicy
replace_of p bank r = raised_at (slot_to_replace p bank r) p

unfoldable pub replace_bank : PolicySnapshot → List ℕ → List ℕ → List ℕ
replace_bank p bank r = written_at (slot_to_replace p bank r) r bank

-- S4. `remove`: the slot is free
unfoldable pub remove_of : PolicySnapshot → List ℕ → ℕ → Answer EditedPolicy
remove_of p bank id = raised_at (slot_to_remove p bank id) p

unfoldable pub remove_bank : PolicySnapshot → List ℕ → ℕ → List ℕ
remove_bank p bank id = written_at (slot_to_remove p bank id) free_slot bank

-- ---- the compaction

-- S8. The gaps closed: the live records in their order, then free slots, as many slots as before
unfoldable pub closed_up : List (List ℕ) → List (List ℕ)
closed_up rs = live_slots rs ++ replicate (length rs - length (live_slots rs)) free_slot

unfoldable pub compacted : List ℕ → List ℕ
compacted bank = joined (closed_up (records_of bank))

-- S8. `compact`: how many records are live, and the bank at exit
unfoldable pub compact_of : PolicySnapshot → List ℕ → Answer EditedPolicy
compact_of p bank = unless (compact_faults p bank) refused (answered (raised_with p (length (live_slots (records_of bank)))))

unfoldable pub compact_bank : PolicySnapshot → List ℕ → List ℕ
compact_bank p bank = unless (compact_faults p bank) (λ f. bank) (compacted bank)
