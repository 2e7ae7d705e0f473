-- What is read: the parts of a form that passes, and what refuses one. Assumes nothing.
use Rattle.rules.proofs.Kit.{ℕ, ◌≤◌, ◌<◌, ◌≡◌, refl, sym, ap, ◌∙◌, List, [], ◌∷◌, length}
use Rattle.rules.specs.{Bytes.filled, Records.input_of, Refused.room_faults, Refused.answered, Refused.first_fault, Refused.told_outcome, Refused.refused}
use Rattle.rules.specs.{Stored.body_of, Stored.form_faults, Stored.stored_tags, Stored.stored_policy, Stored.stored_bank, Stored.read_faults}
use Rattle.rules.specs.{Stored.read_stored_of}
use Rattle.rules.specs.{Stored.read_stored_buffer, Stored.read_request_of, declared.records.KernelInput.KernelInput}
use Rattle.rules.specs.{declared.records.PolicySnapshot.PolicySnapshot}
use Rattle.rules.specs.declared.refusal.Refusal.{Refusal}
use Rattle.std.specs.Prelude.{Err}
use Rattle.endian_writing.specs.Put.{patched}
use Rattle.splice.proofs.Pieces.{patched_start}
use Rattle.rules.proofs.Faults.{room_enough, append_refused, room_short, unless_none}
use Rattle.stored_layout.proofs.Openings.{Opened, opened}
use Rattle.rules.specs.declared.refusal.Refusal.TheVariants as refusal

-- A FORM THAT PASSES HAS ITS FIELDS, tags 4 and 5 among them or not
pub catalog_fields : (form : List ℕ) → form_faults stored_tags form ≡ [] → Opened [] form
catalog_fields form e = opened [] form e

-- ---- what refuses a stored form

-- its own faults come first
pub reading_refused : (r : Refusal) (form : List ℕ) (room : ℕ) → told_outcome (Err r) ≡ first_fault (form_faults stored_tags form)
    → told_outcome (Err r) ≡ first_fault (read_faults form room)
unfolding read_faults
reading_refused r form room h = append_refused (form_faults stored_tags form) (room_faults (length (stored_bank form)) room) refl h

module _ (form : List ℕ) (room : ℕ) (none : form_faults stored_tags form ≡ []) where
  -- then the room
  pub reading_short : room < length (stored_bank form) → told_outcome (Err refusal.NoRoom) ≡ first_fault (read_faults form room)
  unfolding read_faults
  reading_short m = rw none (room_short (length (stored_bank form)) room m)

  pub reading_none : length (stored_bank form) ≤ room → read_faults form room ≡ []
  unfolding read_faults
  reading_none m = rw none (room_enough (length (stored_bank form)) room m)

-- ---- what is answered where nothing refuses

-- A STORED FORM IS READ: the policy, and the models' bytes at the start of the buffer
pub stored_read : {e bank : List ℕ} {p : PolicySnapshot} (form d : List ℕ) → read_faults form (length d) ≡ [] → p ≡ stored_policy form → bank ≡ stored_bank form
    → e ≡ patched d 0 bank → (answered (record { policy = p; size = length bank }) ≡ read_stored_of form (length d)) × (e ≡ read_stored_buffer form d)
unfolding read_stored_of read_stored_buffer
stored_read {e} {bank} {p} form d none policy models put = (
  (λ i. answered (record { policy = policy i; size = length (models i) })) ∙ sym (unless_none (read_faults form (length d)) refused _ none),
  put ∙ patched_start d bank ∙ ap (λ (b : List ℕ). filled b d) models
      ∙ sym (unless_none (read_faults form (length d)) (λ f. d) (filled (stored_bank form) d) none),
)

-- A REQUEST FORM IS READ
pub request_read : {q : KernelInput} (form : List ℕ) → form_faults (3 ∷ []) form ≡ [] → q ≡ input_of (body_of form) → answered q ≡ read_request_of form
unfolding read_request_of
request_read form none e = ap answered e ∙ sym (unless_none (form_faults (3 ∷ []) form) refused _ none)
