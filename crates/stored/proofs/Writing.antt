-- What is written: its length, and what refuses it. Assumes nothing.
use Rattle.rules.proofs.Kit.{lt-ltb, le-ltb, ℕ, ◌+◌, ◌≤◌, ◌<◌, ◌≡◌, refl, Bool, true, false, cond, List, [], ◌∷◌, ◌++◌, arith, eqb, ltb, length, length-append}
use Rattle.rules.specs.{Limits.field_header_bytes, Limits.max_stored_models, Limits.stored_request_bytes, Choice.equal, Bytes.bytes_of, Records.records_in}
use Rattle.rules.specs.{Refused.fault, Refused.refuse_if, Refused.length_faults, Refused.room_faults, Refused.first_fault, Refused.told_outcome, Stored.field_bytes}
use Rattle.rules.specs.{Stored.rounding_field, Stored.allowance_field, Stored.stored_form, Stored.write_faults, Stored.request_form, declared.records.KernelInput.KernelInput}
use Rattle.rules.specs.{declared.records.PolicySnapshot.PolicySnapshot, declared.records.Rounding.Rounding, declared.records.Rounding.TheVariants.Apart}
use Rattle.rules.specs.{declared.records.Rounding.TheVariants.Once}
use Rattle.std.specs.Prelude.{Ok, Err}
use Rattle.endian_writing.proofs.Bytes.{length_bytes}
use Rattle.packing.proofs.Trips.{length-numbers, length_input}
use Rattle.stored.specs.Writing.{rounding_size, allowance_size, form_size, writing_faults}
use Rattle.rules.proofs.Faults.{none_after, room_passed}
use Rattle.rules.specs.declared.refusal.Refusal.TheVariants as refusal

-- A field has its header before its body
pub length_field : (tag : ℕ) (body : List ℕ) → length (field_bytes tag body) ≡ field_header_bytes + length body
unfolding field_bytes
length_field tag body = simp (length-append, length_bytes) (omega arith)

pub length_rounding : (r : Rounding) → length (rounding_field r) ≡ rounding_size r
unfolding rounding_field
length_rounding Apart = refl
length_rounding Once = length_field 4 (1 ∷ [])

pub rounding_short : (r : Rounding) → rounding_size r ≤ 4
rounding_short Apart = omega arith
rounding_short Once = omega arith

-- and an allowance, or none
pub length_allowance : (a : ℕ) → length (allowance_field a) ≡ allowance_size a
unfolding allowance_field equal
length_allowance a = go (eqb a 0)
  where
    go : (none : Bool) → length (cond none [] (field_bytes 5 (bytes_of 4 a))) ≡ cond none 0 (field_header_bytes + 4)
    go true = refl
    go false = rw (length_field, length_bytes)

pub allowance_short : (a : ℕ) → allowance_size a ≤ 7
unfolding equal
allowance_short a = go (eqb a 0)
  where
    go : (none : Bool) → cond none 0 7 ≤ 7
    go true = omega arith
    go false = omega arith

pub length_stored : (p : PolicySnapshot) (bank : List ℕ) → length (stored_form p bank) ≡ form_size p.rounding p.latency_allowance_ms (length bank)
unfolding stored_form
length_stored p bank = simp (length-append, length_field, length-numbers, length_rounding, length_allowance) (omega arith)

pub length_request : (q : KernelInput) → length (request_form q) ≡ field_header_bytes + stored_request_bytes
unfolding request_form
length_request q = rw (length_field, length_input)

-- WHAT REFUSES A BANK depends on its length, on how the policy rounds, on its allowance, and on the room alone
pub writing_refuses : (p : PolicySnapshot) (bank : List ℕ) (room : ℕ)
    → writing_faults p.rounding p.latency_allowance_ms (length bank) room ≡ write_faults p bank room
unfolding writing_faults write_faults
writing_refuses p bank room = rw (length_stored p bank)

-- and where nothing does, there is room for the form
pub writing_room : (r : Rounding) (a n room : ℕ) → writing_faults r a n room ≡ [] → form_size r a n ≤ room
unfolding writing_faults
writing_room r a n room e =
    room_passed _ room (none_after (length_faults n ++ refuse_if (ltb max_stored_models (records_in n)) (fault 18)) _ e)

-- The tests after the bank's own: too many to store, no room, none
module _ (r : Rounding) (a n room : ℕ) (none : length_faults n ≡ []) where
  pub writing_many : max_stored_models < records_in n → told_outcome (Err refusal.TooManyToStore) ≡ first_fault (writing_faults r a n room)
  unfolding writing_faults told_outcome first_fault
  writing_many m = rw (none, lt-ltb max_stored_models (records_in n) m)

  module _ (few : records_in n ≤ max_stored_models) where
    pub writing_short : room < form_size r a n → told_outcome (Err refusal.NoRoom) ≡ first_fault (writing_faults r a n room)
    unfolding writing_faults room_faults told_outcome first_fault
    writing_short m = rw (none, le-ltb max_stored_models (records_in n) few, lt-ltb room (form_size r a n) m)

    pub writing_passed : form_size r a n ≤ room → told_outcome (Ok tt) ≡ first_fault (writing_faults r a n room)
    unfolding writing_faults room_faults told_outcome first_fault
    writing_passed m = rw (none, le-ltb max_stored_models (records_in n) few, le-ltb room (form_size r a n) m)
