-- A bank as a list of records: how many there are, and which stands where. Assumes nothing.
use Rattle.rules.proofs.Kit.{ℕ, zero, suc, ◌+◌, ◌<◌, List, [], ◌≡◌, refl, ap, arith, zero-add, add-zero, add-suc, suc-add, length, get_or}
use Rattle.rules.specs.Records.{Listed, listed, listed_from, listed_of, model_at, model_of, records_in}

length_from : (bank : List ℕ) (place n : ℕ) → length (listed_from bank place n) ≡ n
length_from bank place zero = refl
length_from bank place (suc n) = ap suc (length_from bank (suc place) n)

from_at : (bank : List ℕ) (place n i : ℕ) (d : Listed) → i < n → get_or (listed_from bank place n) i d ≡ listed (place + i) (model_at bank (place + i))
from_at bank place zero i d h = absurd (omega arith)
from_at bank place (suc n) zero d h = rw add-zero
from_at bank place (suc n) (suc i) d h = rw (from_at bank (suc place) n i d (omega arith), suc-add, add-suc)

-- A BANK LISTS ONE RECORD FOR EACH 47 BYTES
pub length-listed : (bank : List ℕ) → length (listed_of bank) ≡ records_in (length bank)
unfolding listed_of
length-listed bank = length_from bank 0 (records_in (length bank))

-- AND AT EACH PLACE THE MODEL THAT STANDS THERE
pub listed_at : (bank : List ℕ) (i : ℕ) (d : Listed) → i < records_in (length bank) → get_or (listed_of bank) i d ≡ listed i (model_at bank i)
unfolding listed_of
listed_at bank i d h = rw zero-add at (from_at bank 0 (records_in (length bank)) i d h)

-- What stands past the end of a list of records
abbrev pub nowhere : Listed
nowhere = listed 0 (model_of [])
