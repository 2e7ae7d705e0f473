-- Document 01, "Bytes" and "Boundaries": how a bank is read, a record read at its place, and the first listed record with an id.
use Rattle.std.specs.Prelude.{ltb, ℕ, ◌*◌, not, List, [], ◌∷◌, ◌++◌, length}
use Rattle.std.proofs.Math.Option.{Option, none, some}
use Rattle.rules.specs.Limits.{record_bytes}
use Rattle.rules.specs.Choice.{equal}
use Rattle.rules.specs.Records.{Listed, listed_of, records_in, record_part}
use Rattle.rules.specs.Refused.{Fault, Faults, fault, first_fault, bank_faults, Answer, answered, unless, refused, refuse_if}

-- How a bank is read: what refuses it, and the records that a call runs over
pub record Reading : Type 0 where
  pub faults : Faults
  pub list : List Listed

-- N1, N2, B4. Every record of it
abbrev pub every_record : List ℕ → Reading
every_record bank = record { faults = bank_faults bank; list = listed_of bank }

-- N8. Reading a record: the place is beyond the bank
unfoldable pub reading_faults : List ℕ → ℕ → Faults
reading_faults bank place = bank_faults bank ++ refuse_if (not (ltb place (records_in (length bank)))) (fault 8)

unfoldable pub reading_of : List ℕ → ℕ → Option Fault
reading_of bank place = first_fault (reading_faults bank place)

-- B5. The very part that reading hands back, empty where the call beside it answers a number
unfoldable pub record_of : List ℕ → ℕ → List ℕ
record_of bank place = unless (reading_faults bank place) (λ f. []) (record_part bank place)

-- B5. And where in the bank that part begins; the empty one begins where the bank does
unfoldable pub record_start : List ℕ → ℕ → ℕ
record_start bank place = unless (reading_faults bank place) (λ f. 0) (record_bytes * place)

-- R1. The first listed record with an id
unfoldable pub first_listed : ℕ → List Listed → Option Listed
first_listed id [] = none
first_listed id (l ∷ ls) = equal l.model.model_id id (some l) (first_listed id ls)

-- R1. Its place: an answer also where there is none
abbrev pub place_of : Option Listed → Option ℕ
place_of none = none
place_of (some l) = some l.place

abbrev pub find_over : ℕ → Reading → Answer (Option ℕ)
find_over id b = unless b.faults refused (answered (place_of (first_listed id b.list)))

unfoldable pub find_of : ℕ → List ℕ → Answer (Option ℕ)
find_of id bank = find_over id (every_record bank)
