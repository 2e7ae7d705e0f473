-- The exported batches, `volankizo_prescribe_batch` and `volankizo_prescribe_batch_checked`: the requests that bytes say, the refusals of a row in
-- their order, and the word and buffer that each call leaves.
use Rattle.std.specs.Prelude.{ℕ, zero, suc, ◌*◌, ◌/◌, List, [], ◌∷◌, ◌++◌, ltb, length, take, drop}
use Rattle.rules.specs.Limits.{request_bytes, max_u32}
use Rattle.rules.specs.Records.{input_of, policy_of}
use Rattle.rules.specs.Refused.{Faults, fault, refuse_if, size_faults, unless}
use Rattle.rules.specs.Numbers.{Decision}
use Rattle.rules.specs.Listing.{Reading, every_record}
use Rattle.rules.specs.Stored.{policy_byte_faults}
use Rattle.rules.specs.Batch.{batch_faults_over, batch_checked_faults_over, decisions_of}
use Rattle.rules.specs.declared.records.KernelInput.{KernelInput}
use Rattle.export_decision_bytes.specs.Layout.{uncounted_size, uncounted_bytes}
use Rattle.export_checks.specs.Checks.{word_at, delivered}

-- ---- what is lent

-- What a batch is lent to read: the bytes, and how many requests they are said to hold
pub record LentRow : Type 0 where
  pub policy : List ℕ
  pub requests : List ℕ
  pub count : ℕ
  pub bank : List ℕ

abbrev pub lent_row : List ℕ → List ℕ → ℕ → List ℕ → LentRow
lent_row policy requests count bank = record { policy = policy; requests = requests; count = count; bank = bank }

-- The request at a place of a row: 70 bytes, with no gap between one and the next
abbrev pub request_at : List ℕ → ℕ → KernelInput
request_at requests place = input_of (take request_bytes (drop (request_bytes * place) requests))

-- So many requests of a row, from a place on, and all of them
unfoldable pub requests_from : List ℕ → ℕ → ℕ → List KernelInput
requests_from requests place zero = []
requests_from requests place (suc n) = request_at requests place ∷ requests_from requests (suc place) n

abbrev pub requests_of : LentRow → List KernelInput
requests_of l = requests_from l.requests 0 l.count

-- ---- refusals

-- 22: more requests than a place in a refusal's word can tell; bytes that aren't 70 for each, a product of whole numbers, which nothing wraps
unfoldable pub row_size_faults : ℕ → ℕ → Faults
row_size_faults size count = refuse_if (ltb max_u32 count) (fault 22) ++ size_faults size (request_bytes * count)

-- 22, 23: the requests' bytes, the policy's length, and how it rounds
abbrev pub row_faults : LentRow → Faults
row_faults l = row_size_faults (length l.requests) l.count ++ policy_byte_faults l.policy

-- How many decisions so many bytes have room for
abbrev pub decisions_in : ℕ → ℕ
decisions_in room = room / uncounted_size

-- 22, 23, then what refuses the bank, however it is read, and 4
unfoldable pub batch_call_faults : LentRow → Reading → ℕ → Faults
batch_call_faults l b room = row_faults l ++ batch_faults_over b (requests_of l) (decisions_in room)

-- The same, then 3: request by request
unfoldable pub batch_checked_call_faults : LentRow → Reading → ℕ → Faults
batch_checked_call_faults l b room = row_faults l ++ batch_checked_faults_over b (requests_of l) (decisions_in room)

-- ---- what is handed over

-- Decisions in bytes, one after the other with no gap
unfoldable pub row_bytes : List Decision → List ℕ
row_bytes [] = []
row_bytes (d ∷ ds) = uncounted_bytes d ++ row_bytes ds

-- Where nothing refuses a batch: 0, and each request's own decision in the order of the requests
abbrev pub row_delivered : LentRow → Reading → List ℕ → ℕ × List ℕ
row_delivered l b out = delivered (row_bytes (decisions_of (policy_of l.policy) b.list (requests_of l))) out

-- WORD AND BUFFER OF A BATCH, however the bank is read: the word of the first fault, of 3 with the request's place, and the buffer as it was; else
-- 0, and each request's own decision in the order of the requests
abbrev pub row_handed : Faults → LentRow → Reading → List ℕ → ℕ × List ℕ
row_handed faults l b out = unless faults (λ f. (word_at f.place f, out)) (row_delivered l b out)

-- 22, 23, 1, 2, 4
abbrev pub batch_call : LentRow → List ℕ → ℕ × List ℕ
batch_call l out = let b = every_record l.bank in row_handed (batch_call_faults l b (length out)) l b out

-- 22, 23, 1, 2, 4, 3
abbrev pub batch_checked_call : LentRow → List ℕ → ℕ × List ℕ
batch_checked_call l out = let b = every_record l.bank in row_handed (batch_checked_call_faults l b (length out)) l b out
