-- A slot of a bank set: its bytes written there, the answer, and a record offered with its own length. Assumes nothing.
use Rattle.rules.proofs.Kit.{ℕ, suc, ◌+◌, ◌-◌, ◌*◌, ◌/◌, ◌%◌, ◌≤◌, ◌<◌, ◌≡◌, refl, sym, ◌∙◌, List, [], arith, eq-eqb, ne_eqb, length, drop, set, take_all}
use Rattle.rules.proofs.Kit.{length-drop}
use lib.Seq.{set_split}
use Rattle.rules.specs.{Bytes.number_at, Records.model_of, Refused.refused, Refused.answered, Refused.fault, Refused.size_faults}
use Rattle.rules.specs.{Trust.records_of, Trust.joined, Trust.id_of, Edits.spent_faults, Edits.raised_of, Edits.raised_at, Edits.written_at, Edits.slot_to_add}
use Rattle.rules.specs.{Edits.slot_to_replace, Edits.slot_to_remove, declared.records.PolicySnapshot.PolicySnapshot, declared.refusal.Refusal.Refusal}
use Rattle.rules.proofs.{Chunks.records_take, Chunks.records_drop, Chunks.joined-append, Chunks.joined-cons, Chunks.joined_records, Slots.slots_length}
use Rattle.endian_writing.specs.Put.{patched}
use Rattle.rules.proofs.Faults.{exit_is}
use Rattle.rules.specs.{Refused.Answer, Numbers.told_edited}
use Rattle.std.specs.Prelude.{Result, Ok, Err, IsErrAnd}
use Rattle.live_edits.specs.Placing.{told_slot, slot_to_take, Writable}

-- WRITING A RECORD'S BYTES AT A SLOT sets that slot
pub put_sets : (bank r : List ℕ) (place : ℕ) → length bank % 47 ≡ 0 → length r ≡ 47 → place < length bank / 47
    → patched bank (47 * place) r ≡ joined (set (records_of bank) place r)
unfolding patched
put_sets bank r place whole one h =
    let n = length bank / 47 in
    let inside : place < length (records_of bank) = rw (slots_length bank) h in
    let next : 47 * place + 47 ≡ 47 * suc place = omega arith in
    let rest : length (drop (47 * suc place) bank) ≤ 47 * (n - suc place) = simp length-drop (omega arith) in
    sym (rw (
      set_split (records_of bank) place r inside,
      joined-append,
      joined-cons,
      records_take place n bank (omega arith),
      records_drop (suc place) n bank (omega arith),
      joined_records,
      joined_records,
      take_all (47 * (n - suc place)) (drop (47 * suc place) bank) rest,
      one,
      next,
    ))

-- WHERE A SLOT CAN BE WRITTEN it is one of the bank's, and what stands there is the record
pub slot_inside : (p : PolicySnapshot) (bank : List ℕ) (place : ℕ) → Writable (answered place) p bank
    → (place < length bank / 47) × (length bank % 47 ≡ 0) × (spent_faults p ≡ [])
unfolding Writable
slot_inside p bank place h = h

pub slot-written : (p : PolicySnapshot) (bank r : List ℕ) (place : ℕ) {exit : List ℕ} → Writable (answered place) p bank → length r ≡ 47
    → exit ≡ patched bank (47 * place) r → exit ≡ written_at (answered place) r bank
slot-written p bank r place can one bytes =
    let h = slot_inside p bank place can in
    bytes ∙ put_sets bank r place h.1 one h.0

-- WHAT AN EDIT ANSWERS: the slot's refusal, and no byte written
pub nothing_written : (e : Result (PolicySnapshot × ℕ) Refusal) (k : Refusal) (p : PolicySnapshot) (bank r : List ℕ) {slot : Answer ℕ}
    → IsErrAnd e (λ x. x ≡ k) → told_slot (Err k) ≡ slot → (told_edited e ≡ raised_at slot p) × (bank ≡ written_at slot r bank)
nothing_written e k p bank r is told = rw (exit_is e k is, ← told) (refl, refl)

-- or what was written there
pub edit_written : (x : PolicySnapshot × ℕ) (p : PolicySnapshot) (bank exit r : List ℕ) {place : ℕ} {slot : Answer ℕ} → x ≡ (raised_of p, place)
    → exit ≡ written_at (answered place) r bank → told_slot (Ok place) ≡ slot → (told_edited (Ok x) ≡ raised_at slot p) × (exit ≡ written_at slot r bank)
edit_written x p bank exit r is written told = rw (is, ← told) (refl, written)

-- ---- a record offered

its_id : (r : List ℕ) (id : ℕ) → id ≡ number_at r 0 4 → id ≡ id_of r
unfolding id_of model_of
its_id r id e = e

module _ (p : PolicySnapshot) (bank r : List ℕ) where
  -- WITH ITS OWN LENGTH it goes by its id
  module _ (one : length r ≡ 47) where
    pub own-add : (id : ℕ) → id ≡ number_at r 0 4 → slot_to_take p bank id ≡ slot_to_add p bank r
    unfolding slot_to_add slot_to_take size_faults
    own-add id e = rw (its_id r id e, eq-eqb (length r) 47 one)

    pub own-replace : (id : ℕ) → id ≡ number_at r 0 4 → slot_to_remove p bank id ≡ slot_to_replace p bank r
    unfolding slot_to_replace slot_to_remove size_faults
    own-replace id e = rw (its_id r id e, eq-eqb (length r) 47 one)

  -- WITH ANOTHER it is 22
  module _ (other : length r ≡ 47 → ⊥) where
    pub other-add : slot_to_add p bank r ≡ refused (fault 22)
    unfolding slot_to_add size_faults
    other-add = rw (ne_eqb (length r) 47 other)

    pub other-replace : slot_to_replace p bank r ≡ refused (fault 22)
    unfolding slot_to_replace size_faults
    other-replace = rw (ne_eqb (length r) 47 other)
