-- The slot that an edit writes: what refuses it first, what was found, and that it is one of the bank's. Assumes nothing.
use Rattle.rules.proofs.Kit.{ℕ, ◌/◌, ◌<◌, ◌≡◌, refl, sym, ap, ◌∙◌, List, [], ◌∷◌, ◌++◌, Option, none, some, eqb, eqb-false, length}
use Rattle.rules.specs.{Limits.max_u64, Records.listed_of, Refused.Faults, Refused.fault}
use Rattle.rules.specs.{Refused.told_refusal, Refused.Answer, Refused.refused, Refused.unless, Numbers.told_option}
use Rattle.rules.specs.{Listing.first_listed, Listing.place_of, Slots.live_faults, Slots.slot_with, Slots.lowest_free, Edits.offered_faults, Edits.spent_faults}
use Rattle.rules.specs.{Edits.there_faults, Edits.edit_faults, Edits.add_faults, Edits.slot_or, Edits.slot_to_remove, declared.records.PolicySnapshot.PolicySnapshot}
use Rattle.rules.specs.{declared.refusal.Refusal.Refusal}
use Rattle.std.specs.Prelude.{Option as Found, Some, None, Result, ok_or}
use Rattle.rules.proofs.{Faults.none_first, Faults.none_after, Faults.test_none}
use Rattle.rules.proofs.{Slots.first_live, Slots.live-whole}
use Rattle.call_checks.proofs.Finding.{found_at}
use Rattle.live_edits.specs.Placing.{told_slot, slot_to_take, Writable}

-- ---- what is told

-- THE SLOT IS WHAT WAS FOUND, or there is a fault
pub slot_told : (o : Found ℕ) (r : Refusal) (n : ℕ) {a : Result ℕ Refusal} {found : Option ℕ} → a ≡ ok_or o r → told_refusal r ≡ fault n → told_option o ≡ found
    → told_slot a ≡ slot_or n found
slot_told None r n is told its = rw (is, ← its) (ap refused told)
slot_told (Some place) r n is told its = rw (is, ← its)

-- AN EPOCH THAT PASSED is not the largest
pub epoch_left : (p : PolicySnapshot) → spent_faults p ≡ [] → p.catalog_epoch ≡ max_u64 → ⊥
unfolding spent_faults
epoch_left p e = eqb-false p.catalog_epoch max_u64 (test_none (eqb p.catalog_epoch max_u64) (fault 27) e)

-- ---- what passed tests tell

module _ (p : PolicySnapshot) (bank : List ℕ) (id : ℕ) where
  module _ (clean : edit_faults p bank id ≡ []) where
    pub edit-live : live_faults bank ≡ []
    unfolding edit_faults
    edit-live = none_first (live_faults bank) (offered_faults id ++ spent_faults p) clean

    edit-rest : offered_faults id ++ spent_faults p ≡ []
    unfolding edit_faults
    edit-rest = none_after (live_faults bank) (offered_faults id ++ spent_faults p) clean

    edit-offered : id ≡ 0 → ⊥
    unfolding offered_faults
    edit-offered = eqb-false id 0 (test_none (eqb id 0) (fault 16) (none_first (offered_faults id) (spent_faults p) edit-rest))

    slot-with : slot_with id bank ≡ place_of (first_listed id (listed_of bank))
    unfolding slot_with
    slot-with = ap place_of (first_live id edit-offered (listed_of bank))

    -- A SLOT OF THE BANK CAN BE WRITTEN
    inside : (n : ℕ) (o : Option ℕ) → ((place : ℕ) → o ≡ some place → place < length bank / 47) → Writable (slot_or n o) p bank
    unfolding Writable
    inside n none h = tt
    inside n (some place) h = (h place refl, live-whole bank edit-live, none_after (offered_faults id) (spent_faults p) edit-rest)

  writable : (fs : Faults) {a : Answer ℕ} (b : Answer ℕ) → (fs ≡ [] → Writable b p bank) → a ≡ unless fs refused b → Writable a p bank
  unfolding Writable
  writable [] b h e = rw e (h refl)
  writable (f ∷ fs) b h e = rw e tt

  pub add-live : add_faults p bank id ≡ [] → live_faults bank ≡ []
  unfolding add_faults
  add-live clean = edit-live (none_first (edit_faults p bank id) (there_faults id (slot_with id bank)) clean)

  -- WHERE AN EDIT HAS ITS SLOT it can be written
  pub add-writable : {a : Answer ℕ} → a ≡ slot_to_take p bank id → Writable a p bank
  unfolding slot_to_take lowest_free add_faults
  add-writable e =
      let there = there_faults id (slot_with id bank) in
      writable (add_faults p bank id) (slot_or 28 (lowest_free bank))
      (λ clean. inside (none_first (edit_faults p bank id) there clean) 28 (lowest_free bank) (λ place k. (found_at bank 0 place k).1)) e

  pub of-id-writable : {a : Answer ℕ} → a ≡ slot_to_remove p bank id → Writable a p bank
  unfolding slot_to_remove
  of-id-writable e =
      writable (edit_faults p bank id) (slot_or 5 (slot_with id bank))
      (λ clean. inside clean 5 (slot_with id bank) (λ place k. (found_at bank id place (sym (slot-with clean) ∙ k)).1)) e
