-- What the exported functions that take a form apart leave: for each its refusals in their order, and its word and buffers.
use Rattle.std.specs.Prelude.{ℕ, ◌+◌, List, [], ◌∷◌, ◌++◌, length}
use Rattle.rules.specs.Limits.{request_bytes, longest_policy_bytes}
use Rattle.rules.specs.Bytes.{bytes_of}
use Rattle.rules.specs.Records.{input_of, input_bytes, policy_in_bytes}
use Rattle.rules.specs.Refused.{Faults, fault, room_faults, list_unless, answered}
use Rattle.rules.specs.Numbers.{StoredPolicy}
use Rattle.rules.specs.Stored.{body_of, form_faults, stored_tags, stored_policy, stored_bank, read_faults}
use Rattle.export_checks.specs.Checks.{word_size, handed}

-- ---- `volankizo_read_stored`

-- A policy's bytes in their longest form, and a length's
abbrev pub stored_size : ℕ
stored_size = longest_policy_bytes + word_size

-- 20 to 23 and 25 of the form, then 4: of the bank's buffer, which has so much room, or of the other one
abbrev pub read_stored_faults : List ℕ → ℕ → ℕ → Faults
read_stored_faults form bank room = read_faults form bank ++ room_faults stored_size room

-- The policy, then how many bytes of models went to the bank's buffer
abbrev pub stored_bytes : StoredPolicy → List ℕ
stored_bytes s = policy_in_bytes s.policy ++ bytes_of word_size s.size

abbrev pub stored_in : List ℕ → StoredPolicy
stored_in form = record { policy = stored_policy form; size = length (stored_bank form) }

-- Word and buffer, and the bank's buffer
abbrev pub read_stored_call : List ℕ → List ℕ → List ℕ → (ℕ × List ℕ) × List ℕ
read_stored_call form bank out =
    let faults = read_stored_faults form (length bank) (length out) in
    (handed stored_bytes faults (answered (stored_in form)) out, list_unless faults (stored_bank form) bank)

-- Where the second buffer is too short: the form's own fault, else 4
abbrev pub roomless_faults : List ℕ → Faults
roomless_faults form = form_faults stored_tags form ++ (fault 4 ∷ [])

-- ---- `volankizo_read_request`

-- 20 to 22, then 4
abbrev pub read_request_faults : List ℕ → ℕ → Faults
read_request_faults form room = form_faults (3 ∷ []) form ++ room_faults request_bytes room

abbrev pub read_request_call : List ℕ → List ℕ → ℕ × List ℕ
read_request_call form out =
    handed input_bytes (read_request_faults form (length out)) (answered (input_of (body_of form))) out
