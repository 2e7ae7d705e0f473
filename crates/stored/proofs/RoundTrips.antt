-- READING WHAT WAS WRITTEN, AND WRITING WHAT WAS READ, as the four calls meet them. That each number fits its field, and each element of a
-- form is a byte, is a premise here; the types of the calls give it. Assumes nothing.
use Rattle.rules.proofs.Kit.{ℕ, ◌≤◌, ◌≡◌, refl, sym, ap, ◌∙◌, List, [], ◌∷◌, length, take, drop, take_at, w64, SFits}
use Rattle.rules.specs.{Bytes.filled, Records.input_fields, Refused.Faults, Refused.room_faults, Refused.list_unless, Refused.answered}
use Rattle.rules.specs.{Numbers.StoredPolicy, Stored.form_faults, Stored.stored_form, Stored.stored_tags, Stored.write_faults, Stored.write_stored_of}
use Rattle.rules.specs.{Stored.write_stored_buffer}
use Rattle.rules.specs.{Stored.stored_policy, Stored.stored_bank, Stored.read_faults, Stored.read_stored_of, Stored.read_stored_buffer, Stored.request_form}
use Rattle.rules.specs.{Stored.write_request_of, Stored.write_request_buffer, Stored.read_request_of, declared.records.KernelInput.KernelInput}
use Rattle.rules.specs.{declared.records.PolicySnapshot.PolicySnapshot}
use Rattle.endian.proofs.Numbers.{Small}
use Rattle.packing.proofs.{Layouts.Fitting, Trips.PolicyFits}
use Rattle.rules.proofs.Faults.{none_first, room_enough, some_fault}
use Rattle.stored_layout.proofs.Buffers.{none_answered}
use Rattle.stored.proofs.FormTrips.{Storable, storable_written, storable_none, storable_read, stored-passes, stored-bank, stored-policy, stored_forth}
use Rattle.stored.proofs.FormTrips.{request-passes, request-says, request_forth}

-- What was filled in stands at the start
front_of : (fs : Faults) (new list : List ℕ) (n : ℕ) → fs ≡ [] → length new ≡ n → take n (list_unless fs new list) ≡ new
unfolding filled
front_of [] new list n e l = take_at new (drop (length new) list) n l
front_of (f ∷ fs) new list n e l = some_fault e

-- ---- a policy with its bank

-- What writing takes, as it stands in the buffer
written_form : (p : PolicySnapshot) (bank out : List ℕ) (n : ℕ) → write_stored_of p bank (length out) ≡ answered n
    → Storable (length bank) × (take n (write_stored_buffer p bank out) ≡ stored_form p bank)
unfolding write_stored_of write_stored_buffer
written_form p bank out n e =
    let t = none_answered (write_faults p bank (length out)) _ n e in
    (storable_written p bank (length out) t.0, front_of (write_faults p bank (length out)) (stored_form p bank) out n t.0 t.1)

-- A form that was written is read, where there is room
form_read : (p : PolicySnapshot) (bank buffer : List ℕ) → PolicyFits p → Storable (length bank) → length bank ≤ length buffer
    → (read_stored_of (stored_form p bank) (length buffer) ≡ answered (record { policy = p; size = length bank }))
    × (read_stored_buffer (stored_form p bank) buffer ≡ filled bank buffer)
unfolding read_stored_of read_stored_buffer read_faults
form_read p bank buffer fit s h =
    rw (stored-passes p bank s fit, stored-bank p bank s, stored-policy p bank s fit, room_enough (length bank) (length buffer) h) (refl, refl)

-- READING WHAT WAS WRITTEN GIVES THE SAME POLICY AND BANK
pub write_then_read : (p : PolicySnapshot) (bank out buffer : List ℕ) (n : ℕ) → PolicyFits p
    → write_stored_of p bank (length out) ≡ answered n → length bank ≤ length buffer
    → (read_stored_of (take n (write_stored_buffer p bank out)) (length buffer) ≡ answered (record { policy = p; size = length bank }))
    × (read_stored_buffer (take n (write_stored_buffer p bank out)) buffer ≡ filled bank buffer)
write_then_read p bank out buffer n fit e h =
    let w = written_form p bank out n e in
    rw w.1 (form_read p bank buffer fit w.0 h)

-- What reading takes, as it stands in the answer and in the buffer
read_form : (form buffer : List ℕ) (s : StoredPolicy) → read_stored_of form (length buffer) ≡ answered s
    → (form_faults stored_tags form ≡ []) × (s.policy ≡ stored_policy form) × (take s.size (read_stored_buffer form buffer) ≡ stored_bank form)
unfolding read_stored_of read_stored_buffer read_faults
read_form form buffer s e =
    let t = none_answered (read_faults form (length buffer)) _ s e in (
      none_first (form_faults stored_tags form) _ t.0,
      ap (λ (a : StoredPolicy). a.policy) (sym t.1),
      front_of (read_faults form (length buffer)) (stored_bank form) buffer s.size t.0 (ap (λ (a : StoredPolicy). a.size) t.1),
    )

-- A form that is what is written
form_written : (p : PolicySnapshot) (bank form out : List ℕ) → stored_form p bank ≡ form → Storable (length bank) → length form ≤ length out
    → (write_stored_of p bank (length out) ≡ answered (length form)) × (write_stored_buffer p bank out ≡ filled form out)
unfolding write_stored_of write_stored_buffer
form_written p bank form out e s h = rw (storable_none p bank (length out) s (rw e h), e) (refl, refl)

-- WRITING WHAT WAS READ GIVES THE SAME BYTES
pub read_then_write : (form buffer out : List ℕ) (s : StoredPolicy) → Small form → read_stored_of form (length buffer) ≡ answered s → length form ≤ length out
    → (write_stored_of s.policy (take s.size (read_stored_buffer form buffer)) (length out) ≡ answered (length form))
    × (write_stored_buffer s.policy (take s.size (read_stored_buffer form buffer)) out ≡ filled form out)
read_then_write form buffer out s small e h =
    let r = read_form form buffer s e in
    rw (r.1, r.2) (form_written (stored_policy form) (stored_bank form) form out (stored_forth form small r.0) (storable_read form r.0) h)

-- EACH POLICY WITH A BANK HAS ONE STORED FORM: two that are read as the same are the same
pub one_form : (form other buffer space : List ℕ) (s : StoredPolicy) → Small form → Small other
    → read_stored_of form (length buffer) ≡ answered s → read_stored_of other (length space) ≡ answered s
    → take s.size (read_stored_buffer form buffer) ≡ take s.size (read_stored_buffer other space) → form ≡ other
one_form form other buffer space s small small' e h same =
    let r = read_form form buffer s e in
    let t = read_form other space s h in
    let policy : stored_policy form ≡ stored_policy other = sym r.1 ∙ t.1 in
    let bank : stored_bank form ≡ stored_bank other = sym r.2 ∙ same ∙ t.2 in
    sym (stored_forth form small r.0) ∙ (λ i. stored_form (policy i) (bank i)) ∙ stored_forth other small' t.0

-- ---- a request

-- READING WHAT WAS WRITTEN GIVES THE SAME REQUEST
pub write_then_read_request : (q : KernelInput) (out : List ℕ) (n : ℕ) → Fitting (input_fields q) → SFits w64 q.business_value_microunits
    → write_request_of q (length out) ≡ answered n → read_request_of (take n (write_request_buffer q out)) ≡ answered q
unfolding write_request_of write_request_buffer read_request_of
write_then_read_request q out n fit sign e =
    let faults = room_faults (length (request_form q)) (length out) in
    let t = none_answered faults _ n e in
    rw (front_of faults (request_form q) out n t.0 t.1, request-passes q, request-says q fit sign)

-- WRITING WHAT WAS READ GIVES THE SAME BYTES
pub read_then_write_request : (form out : List ℕ) (q : KernelInput) → Small form → read_request_of form ≡ answered q → length form ≤ length out
    → (write_request_of q (length out) ≡ answered (length form)) × (write_request_buffer q out ≡ filled form out)
unfolding read_request_of write_request_of write_request_buffer
read_then_write_request form out q small e h =
    let t = none_answered (form_faults (3 ∷ []) form) _ q e in
    let same : request_form q ≡ form = ap request_form (sym t.1) ∙ request_forth form small t.0 in
    rw (same, room_enough (length form) (length out) h) (refl, refl)
