-- For each exported function that looks something up: its refusals in their order, and the word and buffer that it leaves.
use Rattle.std.specs.Prelude.{ℕ, List, ℤ, length}
use Rattle.std.proofs.Math.Option.{Option, none, some}
use Rattle.std.specs.Int.{w64}
use Rattle.std.proofs.Common.{of_z}
use Rattle.rules.specs.Limits.{no_place, max_u64}
use Rattle.rules.specs.Bytes.{bytes_of}
use Rattle.rules.specs.Records.{input_of, policy_of}
use Rattle.rules.specs.Refused.{room_faults, Answer, answered}
use Rattle.rules.specs.Listing.{find_of}
use Rattle.rules.specs.Decide.{utility_for_model_of}
use Rattle.rules.specs.Explain.{next_eligible_of}
use Rattle.export_checks.specs.Checks.{Lent, word_size, lent_faults, call_faults, handed}

-- ---- `volankizo_utility_for_model`

-- A utility's bytes
abbrev pub utility_bytes : ℤ → List ℕ
utility_bytes u = bytes_of word_size (of_z w64 u)

abbrev pub utility_asked : Lent → ℕ → Answer ℤ
utility_asked l id = utility_for_model_of (policy_of l.policy) (input_of l.request) id l.bank

-- 22, 23, 1, 2, 4, 7
abbrev pub utility_call : Lent → ℕ → List ℕ → ℕ × List ℕ
utility_call l id out = handed utility_bytes (call_faults l word_size (length out)) (utility_asked l id) out

-- ---- `volankizo_find`

-- A place's bytes
abbrev pub place_size : ℕ
place_size = 2

-- The place, or 65,535 where the id is nowhere: no bank that passes has a record there
abbrev pub place_or : Option ℕ → ℕ
place_or none = no_place
place_or (some place) = place

abbrev pub place_bytes : Option ℕ → List ℕ
place_bytes place = bytes_of place_size (place_or place)

-- 1, 2, 4
abbrev pub find_call : List ℕ → ℕ → List ℕ → ℕ × List ℕ
find_call bank id out = handed place_bytes (lent_faults bank place_size (length out)) (find_of id bank) out

-- ---- `volankizo_next_eligible`

-- The place, or 2 ^ 64 - 1 where no entry is left: no list has one there
abbrev pub next_or : Option ℕ → ℕ
next_or none = max_u64
next_or (some place) = place

abbrev pub next_bytes : Option ℕ → List ℕ
next_bytes place = bytes_of word_size (next_or place)

-- 4
abbrev pub next_call : List ℕ → ℕ → List ℕ → ℕ × List ℕ
next_call list from out = handed next_bytes (room_faults word_size (length out)) (answered (next_eligible_of list from)) out
