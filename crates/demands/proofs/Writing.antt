-- One slot of a bank written: where an edit finds it, what it asks, and what the slots are then. Assumes nothing.
use Rattle.rules.proofs.Kit.{ℕ, zero, suc, ◌+◌, ◌%◌, ◌≡◌, refl, sym, ap, ◌∙◌, List, [], ◌∷◌, ◌++◌, Option, none, some, Option·some-injective}
use Rattle.rules.proofs.Kit.{Option·none-ne-some, ⊎_elim, arith, eqb-false, eqb, length, set, length-set}
use Rattle.rules.specs.{Limits.record_bytes, Order.Each, Records.listed, Records.listed_of, Records.model_of, Refused.Faults, Refused.fault, Refused.refuse_if}
use Rattle.rules.specs.{Refused.size_faults, Refused.refused, Refused.answered, Refused.unless, Listing.first_listed, Listing.place_of, Trust.id_of}
use Rattle.rules.specs.{Trust.records_of, Slots.free_slot, Slots.live_faults, Slots.slot_with, Slots.lowest_free, Edits.offered_faults, Edits.spent_faults}
use Rattle.rules.specs.{Edits.there_faults, Edits.edit_faults, Edits.add_faults, Edits.offered, Edits.slot_or, Edits.slot_to_add, Edits.slot_to_replace}
use Rattle.rules.specs.{Edits.slot_to_remove, Edits.written_at, declared.records.PolicySnapshot.PolicySnapshot}
use Rattle.rules.proofs.{Choices.equal-yes, Choices.equal-no, Orders.same_or_not, Faults.some_fault, Faults.none_first, Faults.none_after, Faults.test_none}
use Rattle.rules.proofs.{Faults.equal_none, Chunks.Whole, Chunks.joined_length, Slots.first_live, Slots.placed, Slots.listed_slots, Slots.slots_whole}
use Rattle.rules.proofs.{Slots.slots_length, Slots.slots_joined}
use Rattle.demands.proofs.Closing.{free_long}

-- ---- the slot that is found

-- The first slot with an id, of slots of which the first has a place
pub record Found (id place : ℕ) (rs : List (List ℕ)) (slot : ℕ) : Type 0 where
  pub before : List (List ℕ)
  pub here : List ℕ
  pub after : List (List ℕ)
  pub whole : rs ≡ before ++ here ∷ after
  pub at : slot ≡ place + length before
  pub has : id_of here ≡ id
  pub lacks : Each (λ r. id_of r ≡ id → ⊥) before

module _ (id place : ℕ) (r : List ℕ) (rs : List (List ℕ)) where
  pub first-here : id_of r ≡ id → first_listed id (placed place (r ∷ rs)) ≡ some (listed place (model_of r))
  unfolding first_listed id_of
  first-here e = equal-yes _ _ _ _ e

  pub first-later : (id_of r ≡ id → ⊥) → first_listed id (placed place (r ∷ rs)) ≡ first_listed id (placed (suc place) rs)
  unfolding first_listed id_of
  first-later n = equal-no _ _ _ _ n

first_nowhere : (id place : ℕ) → first_listed id (placed place []) ≡ none
unfolding first_listed
first_nowhere id place = refl

pub found : (id place : ℕ) (rs : List (List ℕ)) (slot : ℕ) → place_of (first_listed id (placed place rs)) ≡ some slot → Found id place rs slot
found id place [] slot e = absurd (Option·none-ne-some slot (sym (ap place_of (first_nowhere id place)) ∙ e))
found id place (r ∷ rs) slot e =
    ⊎_elim
    (λ h. record {
      before = [];
      here = r;
      after = rs;
      whole = refl;
      at = sym (Option·some-injective place slot (sym (ap place_of (first-here id place r rs h)) ∙ e)) ∙ omega arith;
      has = h;
      lacks = tt;
    })
    (λ n. let f = found id (suc place) rs slot (sym (ap place_of (first-later id place r rs n)) ∙ e) in
    record {
      before = r ∷ f.before;
      here = f.here;
      after = f.after;
      whole = ap (λ (s : List (List ℕ)). r ∷ s) f.whole;
      at = omega (arith, f.at);
      has = f.has;
      lacks = (n, f.lacks);
    })
    (same_or_not (id_of r) id)

-- and where none is found no slot has the id
pub not_found : (id place : ℕ) (rs : List (List ℕ)) → place_of (first_listed id (placed place rs)) ≡ none → Each (λ r. id_of r ≡ id → ⊥) rs
not_found id place [] e = tt
not_found id place (r ∷ rs) e =
    ⊎_elim
    (λ h. absurd (Option·none-ne-some place (sym e ∙ ap place_of (first-here id place r rs h))))
    (λ n. (n, not_found id (suc place) rs (sym (ap place_of (first-later id place r rs n)) ∙ e)))
    (same_or_not (id_of r) id)

-- ---- the slots of the bank that is written

module _ (bank : List ℕ) (slot : ℕ) (r : List ℕ) (long : length r ≡ record_bytes) where
  set-whole : (rs : List (List ℕ)) (i : ℕ) → Whole rs → Whole (set rs i r)
  set-whole [] i h = tt
  set-whole (x ∷ rs) zero h = (long, h.1)
  set-whole (x ∷ rs) (suc i) h = (h.0, set-whole rs i h.1)

  -- S7. THAT SLOT IS WRITTEN, and every other one is as it was
  pub written-slots : records_of (written_at (answered slot) r bank) ≡ set (records_of bank) slot r
  written-slots = slots_joined (set (records_of bank) slot r) (set-whole (records_of bank) slot (slots_whole bank))

  -- S7. THE BANK IS AS LONG AS IT WAS
  pub written_length : length bank % record_bytes ≡ 0 → length (written_at (answered slot) r bank) ≡ length bank
  written_length whole =
      omega (
        arith,
        joined_length (set (records_of bank) slot r) (set-whole (records_of bank) slot (slots_whole bank)),
        length-set (records_of bank) slot r,
        slots_length bank,
      )

-- ---- what is known where an edit isn't refused

-- of any edit: the bank has neither 1, 2 nor 34, the record's length is its own, and the slot is the first with an id (0 where a record is added)
pub record Allowed (bank r : List ℕ) (id slot : ℕ) : Type 0 where
  pub clean : live_faults bank ≡ []
  pub long : length r ≡ record_bytes
  pub place : Found id 0 (records_of bank) slot

answered_slot : (fs : Faults) (n : ℕ) (o : Option ℕ) (slot : ℕ) → unless fs refused (slot_or n o) ≡ answered slot → (fs ≡ []) × (o ≡ some slot)
answered_slot [] n none slot e = absurd (let w : ◌≡◌ {A = ℕ} 0 1 = cc in omega arith)
answered_slot [] n (some x) slot e = (refl, cc)
answered_slot (f ∷ fs) n o slot e = absurd (let w : ◌≡◌ {A = ℕ} 0 1 = cc in omega arith)

there_none : (id : ℕ) (o : Option ℕ) → there_faults id o ≡ [] → o ≡ none
there_none id none e = refl
there_none id (some x) e = some_fault e

offered_long : (r : List ℕ) (fs : Faults) → offered r fs ≡ [] → (length r ≡ record_bytes) × (fs ≡ [])
unfolding size_faults
offered_long r fs e =
    (equal_none (length r) record_bytes (fault 22) (none_first _ fs e), none_after (size_faults (length r) record_bytes) fs e)

module _ (p : PolicySnapshot) (bank : List ℕ) (id : ℕ) where
  edit-clean : edit_faults p bank id ≡ [] → live_faults bank ≡ []
  unfolding edit_faults
  edit-clean e = none_first (live_faults bank) _ e

  edit-named : edit_faults p bank id ≡ [] → id ≡ 0 → ⊥
  unfolding edit_faults offered_faults
  edit-named e =
      eqb-false id 0 (test_none (eqb id 0) (fault 16) (none_first (refuse_if (eqb id 0) (fault 16)) (spent_faults p) (none_after (live_faults bank) _ e)))

  -- where the id isn't 0, the slot is that of the first of all slots with it
  slot-with : (id ≡ 0 → ⊥) → slot_with id bank ≡ place_of (first_listed id (placed 0 (records_of bank)))
  unfolding slot_with
  slot-with n = ap place_of (first_live id n (listed_of bank) ∙ ap (first_listed id) (listed_slots bank))

  pub removal : (slot : ℕ) → slot_to_remove p bank id ≡ answered slot → Allowed bank free_slot id slot
  unfolding slot_to_remove
  removal slot e =
      let a = answered_slot (edit_faults p bank id) 5 (slot_with id bank) slot e in
      record {
        clean = edit-clean a.0;
        long = free_long;
        place = found id 0 (records_of bank) slot (sym (slot-with (edit-named a.0)) ∙ a.1);
      }

module _ (p : PolicySnapshot) (bank r : List ℕ) (slot : ℕ) where
  pub replacement : slot_to_replace p bank r ≡ answered slot → Allowed bank r (id_of r) slot × (id_of r ≡ 0 → ⊥)
  unfolding slot_to_replace
  replacement e =
      let id = id_of r in
      let a = answered_slot (offered r (edit_faults p bank id)) 5 (slot_with id bank) slot e in
      let (long, passed) = offered_long r (edit_faults p bank id) a.0 in
      let named = edit-named p bank id passed in
      let there = sym (slot-with p bank id named) ∙ a.1 in
      (record { clean = edit-clean p bank id passed; long = long; place = found id 0 (records_of bank) slot there }, named)

  -- and no slot has the id that is added
  pub addition : slot_to_add p bank r ≡ answered slot → Allowed bank r 0 slot × (id_of r ≡ 0 → ⊥) × Each (λ s. id_of s ≡ id_of r → ⊥) (records_of bank)
  unfolding slot_to_add add_faults lowest_free
  addition e =
      let id = id_of r in
      let there = there_faults id (slot_with id bank) in
      let a = answered_slot (offered r (add_faults p bank id)) 28 (lowest_free bank) slot e in
      let (long, passed) = offered_long r (add_faults p bank id) a.0 in
      let edit = none_first (edit_faults p bank id) there passed in
      let named = edit-named p bank id edit in
      let gone = there_none id (slot_with id bank) (none_after (edit_faults p bank id) there passed) in
      let free = ap (λ ls. place_of (first_listed 0 ls)) (sym (listed_slots bank)) ∙ a.1 in (
        record { clean = edit-clean p bank id edit; long = long; place = found 0 0 (records_of bank) slot free },
        named,
        not_found id 0 (records_of bank) (sym (slot-with p bank id named) ∙ gone),
      )
