-- What the exported functions that hand over a record's offset or a form leave: for each its refusals in their order, and its word and buffer.
use Rattle.std.specs.Prelude.{ℕ, ◌*◌, List, ◌++◌, length}
use Rattle.rules.specs.Limits.{record_bytes, request_bytes}
use Rattle.rules.specs.Bytes.{bytes_of}
use Rattle.rules.specs.Records.{input_of, policy_of}
use Rattle.rules.specs.Refused.{Faults, size_faults, room_faults, Answer, refused, answered}
use Rattle.rules.specs.Listing.{reading_faults}
use Rattle.rules.specs.Stored.{policy_byte_faults, stored_form, write_faults, request_form}
use Rattle.export_checks.specs.Checks.{word_at, word_size, lent_faults, handed, itself}

-- ---- `volankizo_record_at`

-- 1, 2, 4, 8: what refuses the bank refuses it before the room, and is not left for the reading
abbrev pub record_at_faults : List ℕ → ℕ → ℕ → Faults
record_at_faults bank place room = lent_faults bank word_size room ++ reading_faults bank place

-- Where the record at a place begins
abbrev pub record_at_call : List ℕ → ℕ → List ℕ → ℕ × List ℕ
record_at_call bank place out =
    handed (bytes_of word_size) (record_at_faults bank place (length out)) (answered (record_bytes * place)) out

-- ---- `volankizo_write_stored` and `volankizo_write_request`

-- 22, 23, 1, 2, 18, 4
abbrev pub write_stored_faults : List ℕ → List ℕ → ℕ → Faults
write_stored_faults policy bank room = policy_byte_faults policy ++ write_faults (policy_of policy) bank room

abbrev pub write_stored_call : List ℕ → List ℕ → List ℕ → ℕ × List ℕ
write_stored_call policy bank out =
    handed itself (write_stored_faults policy bank (length out)) (answered (stored_form (policy_of policy) bank)) out

-- 22, 4
abbrev pub write_request_faults : List ℕ → ℕ → Faults
write_request_faults request room =
    size_faults (length request) request_bytes ++ room_faults (length (request_form (input_of request))) room

abbrev pub write_request_call : List ℕ → List ℕ → ℕ × List ℕ
write_request_call request out =
    handed itself (write_request_faults request (length out)) (answered (request_form (input_of request))) out

-- What a form that was written tells: the refusal's word, or 0
abbrev pub written_word : Answer ℕ → ℕ
written_word (refused f) = word_at 0 f
written_word (answered n) = 0
