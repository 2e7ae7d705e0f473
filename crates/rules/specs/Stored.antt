-- Document 01, "Bytes": the stored form of a policy with its bank, and the request form; document 02, d and f: tags 4 and 5, and a policy alone.
use Rattle.std.specs.Prelude.{ℕ, ◌+◌, ◌/◌, ◌%◌, Bool, false, cond, not, ◌&&◌, ◌||◌, List, [], ◌∷◌, ◌++◌, eqb, leb, ltb, length, take, drop}
use Rattle.rules.specs.Limits.{policy_bytes, rounded_policy_bytes, longest_policy_bytes, field_header_bytes, stored_record_bytes, stored_request_bytes}
use Rattle.rules.specs.Limits.{max_stored_models}
use Rattle.rules.specs.Choice.{equal}
use Rattle.rules.specs.Bytes.{bytes_of, number, number_at}
use Rattle.rules.specs.Records.{policy_with, policy_of, policy_number_bytes, input_of, input_bytes, records_in}
use Rattle.rules.specs.Refused.{Faults, fault, bank_faults, room_faults, list_unless, Answer, answered, unless, refused, refuse_if}
use Rattle.rules.specs.Numbers.{StoredPolicy}
use Rattle.rules.specs.declared.records.KernelInput.{KernelInput}
use Rattle.rules.specs.declared.records.PolicySnapshot.{PolicySnapshot}
use Rattle.rules.specs.declared.records.Rounding.{Rounding}
use Rattle.rules.specs.declared.records.Rounding.TheVariants.{Apart, Once}

-- ---- fields

-- B11. A field: its tag in one byte, the length of its body in two, its body
unfoldable pub field_bytes : ℕ → List ℕ → List ℕ
field_bytes tag body = tag ∷ bytes_of 2 (length body) ++ body

-- B11, O3, F3. The lengths that a tag's body may have: tag 1 that of a policy's numbers, tag 2 that of 0 to 1,394 models, tag 3 a request's, tag 4 one
-- byte, tag 5 four
unfoldable pub fits : ℕ → ℕ → Bool
fits tag n =
    equal tag 1 (eqb n policy_bytes)
    (equal tag 2 (eqb (n % stored_record_bytes) 0 && leb (n / stored_record_bytes) max_stored_models)
    (equal tag 3 (eqb n stored_request_bytes)
    (equal tag 4 (eqb n 1)
    (equal tag 5 (eqb n 4) false))))

-- B11. What the field at the front of some bytes says: its tag, the length of its body, its body; and what stands after it
abbrev pub tag_of : List ℕ → ℕ
tag_of s = number_at s 0 1

abbrev pub body_length : List ℕ → ℕ
body_length s = number_at s 1 2

unfoldable pub body_of : List ℕ → List ℕ
body_of s = take (body_length s) (drop field_header_bytes s)

unfoldable pub after_of : List ℕ → List ℕ
after_of s = drop (field_header_bytes + body_length s) s

-- O3, O4. The body of tag 4 is 1: any other is 23. F3, F4. That of tag 5 is above 0: 0 is 25
unfoldable pub body_faults : ℕ → List ℕ → Faults
body_faults tag body =
    refuse_if (eqb tag 4 && not (eqb (number body) 1)) (fault 23)
    ++ refuse_if (eqb tag 5 && eqb (number body) 0) (fault 25)

-- N20, N21, N22, N25, O4, F4. Where a field with a tag is due: no byte is 21; then 20 for a cut header, 21 for another tag, 22 for a length that the
-- tag doesn't have, 20 for a cut body, and what the body itself is refused for
unfoldable pub field_faults : ℕ → List ℕ → Faults
field_faults tag s =
    refuse_if (eqb (length s) 0) (fault 21)
    ++ refuse_if (ltb (length s) field_header_bytes) (fault 20)
    ++ refuse_if (not (eqb (tag_of s) tag)) (fault 21)
    ++ refuse_if (not (fits tag (body_length s))) (fault 22)
    ++ refuse_if (ltb (length s) (field_header_bytes + body_length s)) (fault 20)
    ++ body_faults tag (body_of s)

-- O3, F3. Tags 4 and 5 may be left out where they are due: then no such byte stands there
abbrev pub left_out : ℕ → List ℕ → Bool
left_out tag s = (eqb tag 4 || eqb tag 5) && not (eqb (tag_of s) tag)

-- O3, F3. What refuses a field where it is due, unless it may be left out there and is; and what stands after it
abbrev pub due_faults : ℕ → List ℕ → Faults
due_faults tag s = cond (left_out tag s) [] (field_faults tag s)

abbrev pub after_due : ℕ → List ℕ → List ℕ
after_due tag s = cond (left_out tag s) s (after_of s)

-- N21, N25. Fields with these tags, one after the other, then the end: any byte after the last field is 21
unfoldable pub form_faults : List ℕ → List ℕ → Faults
form_faults [] s = refuse_if (not (eqb (length s) 0)) (fault 21)
form_faults (tag ∷ tags) s = due_faults tag s ++ form_faults tags (after_due tag s)

-- ---- a policy alone

-- O4, F4. A policy as a call is lent it: 22 where it has neither 30 bytes nor 31 nor 35, then 23 where the 31st is neither 0 nor 1
unfoldable pub policy_size_faults : List ℕ → Faults
policy_size_faults s =
    refuse_if (not (eqb (length s) policy_bytes || eqb (length s) rounded_policy_bytes || eqb (length s) longest_policy_bytes)) (fault 22)

unfoldable pub rounding_faults : List ℕ → Faults
rounding_faults s = refuse_if (ltb 1 (number_at s policy_bytes 1)) (fault 23)

abbrev pub policy_byte_faults : List ℕ → Faults
policy_byte_faults s = policy_size_faults s ++ rounding_faults s

-- O2, F2. Reading one
unfoldable pub read_policy_of : List ℕ → Answer PolicySnapshot
read_policy_of s = unless (policy_byte_faults s) refused (answered (policy_of s))

-- ---- a policy with its bank

-- O3, O5. Tag 4 stands for rounding once, and nothing for rounding apart
unfoldable pub rounding_field : Rounding → List ℕ
rounding_field Apart = []
rounding_field Once = field_bytes 4 (1 ∷ [])

-- F3, F5. Tag 5 stands for an allowance, and nothing where there is none
unfoldable pub allowance_field : ℕ → List ℕ
allowance_field allowance = equal allowance 0 [] (field_bytes 5 (bytes_of 4 allowance))

-- O3, F3. What a policy says beside its numbers: how it rounds, then its allowance
abbrev pub optional_fields : PolicySnapshot → List ℕ
optional_fields p = rounding_field p.rounding ++ allowance_field p.latency_allowance_ms

-- B11, O3, F3. Tag 1 with the policy's numbers, then tag 2 with the models, then the rest of the policy
unfoldable pub stored_form : PolicySnapshot → List ℕ → List ℕ
stored_form p bank = field_bytes 1 (policy_number_bytes p) ++ field_bytes 2 bank ++ optional_fields p

-- B11, O3, F3. The tags of a stored form, in their order
abbrev pub stored_tags : List ℕ
stored_tags = 1 ∷ 2 ∷ 4 ∷ 5 ∷ []

-- N18, N23, O5, F5. Writing one: 1, 2, 18, 4; the answer is its length, tags 4 and 5 counted
unfoldable pub write_faults : PolicySnapshot → List ℕ → ℕ → Faults
write_faults p bank room = bank_faults bank ++ refuse_if (ltb max_stored_models (records_in (length bank))) (fault 18) ++ room_faults (length (stored_form p bank)) room

unfoldable pub write_stored_of : PolicySnapshot → List ℕ → ℕ → Answer ℕ
write_stored_of p bank room = unless (write_faults p bank room) refused (answered (length (stored_form p bank)))

unfoldable pub write_stored_buffer : PolicySnapshot → List ℕ → List ℕ → List ℕ
write_stored_buffer p bank buffer = list_unless (write_faults p bank (length buffer)) (stored_form p bank) buffer

-- O3, F3. How a policy rounds, by what stands where tag 4 is due; its allowance, by what stands where tag 5 is
abbrev pub rounding_from : List ℕ → Rounding
rounding_from s = cond (left_out 4 s) Apart Once

abbrev pub allowance_from : List ℕ → ℕ
allowance_from s = cond (left_out 5 s) 0 (number (body_of s))

-- B11, O3, F3. Reading one: what stands after its catalogue, what after tag 4, or where that would stand; its policy, and the models' bytes
abbrev pub after_catalogue : List ℕ → List ℕ
after_catalogue form = after_of (after_of form)

abbrev pub after_rounding : List ℕ → List ℕ
after_rounding form = after_due 4 (after_catalogue form)

abbrev pub stored_policy : List ℕ → PolicySnapshot
stored_policy form = policy_with (rounding_from (after_catalogue form)) (allowance_from (after_rounding form)) (body_of form)

abbrev pub stored_bank : List ℕ → List ℕ
stored_bank form = body_of (after_of form)

-- N25. The form's own faults come first, 4 last
unfoldable pub read_faults : List ℕ → ℕ → Faults
read_faults form room = form_faults stored_tags form ++ room_faults (length (stored_bank form)) room

unfoldable pub read_stored_of : List ℕ → ℕ → Answer StoredPolicy
read_stored_of form room = unless (read_faults form room) refused (answered (record { policy = stored_policy form; size = length (stored_bank form) }))

-- B11. The models' bytes at the start of the lent buffer, its other bytes as they were
unfoldable pub read_stored_buffer : List ℕ → List ℕ → List ℕ
read_stored_buffer form buffer = list_unless (read_faults form (length buffer)) (stored_bank form) buffer

-- ---- a request

-- B11. Tag 3 with the request
unfoldable pub request_form : KernelInput → List ℕ
request_form q = field_bytes 3 (input_bytes q)

unfoldable pub write_request_of : KernelInput → ℕ → Answer ℕ
write_request_of q room = unless (room_faults (length (request_form q)) room) refused (answered (length (request_form q)))

unfoldable pub write_request_buffer : KernelInput → List ℕ → List ℕ
write_request_buffer q buffer = list_unless (room_faults (length (request_form q)) (length buffer)) (request_form q) buffer

unfoldable pub read_request_of : List ℕ → Answer KernelInput
read_request_of form = unless (form_faults (3 ∷ []) form) refused (answered (input_of (body_of form)))
