-- What opens an exported function: the faults of what is lent, a refusal as one word, and an answer handed over.
use Rattle.std.specs.Prelude.{ℕ, ◌+◌, ◌*◌, ◌^◌, List, [], ◌∷◌, ◌++◌, length}
use Rattle.std.proofs.Math.Option.{Option, none, some}
use Rattle.rules.specs.Limits.{request_bytes}
use Rattle.rules.specs.Choice.{equal}
use Rattle.rules.specs.Bytes.{filled}
use Rattle.rules.specs.Records.{input_of}
use Rattle.rules.specs.Refused.{Fault, Faults, size_faults, bank_faults, room_faults, Answer, refused, answered}
use Rattle.rules.specs.Stored.{policy_byte_faults}
use Rattle.rules.specs.Decide.{request_faults}

-- ---- what is lent

-- The bytes that a call which decides is lent to read
pub record Lent : Type 0 where
  pub policy : List ℕ
  pub request : List ℕ
  pub bank : List ℕ

abbrev pub lent : List ℕ → List ℕ → List ℕ → Lent
lent policy request bank = record { policy = policy; request = request; bank = bank }

-- What refuses the bank, however it is read, then 4: the buffer, which has room for so many bytes and needs so many
abbrev pub then_room : Faults → ℕ → ℕ → Faults
then_room bank needed room = bank ++ room_faults needed room

-- 22, 23, then those: the policy's length and how it rounds
abbrev pub after_policy : List ℕ → Faults → ℕ → ℕ → Faults
after_policy policy bank needed room = policy_byte_faults policy ++ then_room bank needed room

-- 22, 23, then those: the request's length before them
abbrev pub after_request : Lent → Faults → ℕ → ℕ → Faults
after_request l bank needed room = size_faults (length l.request) request_bytes ++ after_policy l.policy bank needed room

-- 1, 2, 4
abbrev pub lent_faults : List ℕ → ℕ → ℕ → Faults
lent_faults bank needed room = then_room (bank_faults bank) needed room

-- 22, 23, 1, 2, 4
unfoldable pub call_faults : Lent → ℕ → ℕ → Faults
call_faults l needed room = after_request l (bank_faults l.bank) needed room

-- 22, 23, 1, 2, 4, 3: the request's fields besides
abbrev pub checked_faults : Lent → ℕ → ℕ → Faults
checked_faults l needed room = call_faults l needed room ++ request_faults (input_of l.request) 0

-- 22, 3: a request alone
abbrev pub check_faults : List ℕ → Faults
check_faults request = size_faults (length request) request_bytes ++ request_faults (input_of request) 0

-- ---- what is handed over

-- A refusal as one word: its number, field and value, and its id, or the place of the request that 3 refuses
abbrev pub word_at : ℕ → Fault → ℕ
word_at place f =
    f.number + 2 ^ 8 * f.field + 2 ^ 16 * f.value + 2 ^ 32 * equal f.number 3 place f.id

-- The word of a call that isn't of a batch: its place is 0; and 0 where it answered, which no refusal's is
abbrev pub word_of : Option Fault → ℕ
word_of none = 0
word_of (some f) = word_at 0 f

-- Word and buffer of a call that answers: 0, and the answer's bytes at the buffer's start
abbrev pub delivered : List ℕ → List ℕ → ℕ × List ℕ
delivered bytes out = (0, filled bytes out)

-- WORD AND BUFFER OF A CALL: the word of its tests' first fault, else of the answer's own refusal, with the buffer as it was; else what is delivered
unfoldable pub handed : {A : Type 0} → (A → List ℕ) → Faults → Answer A → List ℕ → ℕ × List ℕ
handed bytes (f ∷ fs) a out = (word_at 0 f, out)
handed bytes [] (refused f) out = (word_at 0 f, out)
handed bytes [] (answered a) out = delivered (bytes a) out

-- Where the answer is bytes itself
abbrev pub itself : List ℕ → List ℕ
itself bytes = bytes

-- The bytes of an offset, of a length, of a utility and of an entry's place: a u64
abbrev pub word_size : ℕ
word_size = 8
