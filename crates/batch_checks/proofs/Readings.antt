-- Two readings that no call tells apart, and a bank of which every record is read. Assumes nothing.
use Rattle.rules.proofs.Kit.{ℕ, ◌≡◌, List, [], length}
use Rattle.std.specs.Prelude.{Ok}
use Rattle.rules.specs.{Records.listed_of, Records.records_in, Refused.bank_faults, Refused.first_fault, Refused.refused, Refused.answered, Refused.unless}
use Rattle.rules.specs.{Numbers.told_number, Listing.Reading}
use Rattle.rules.proofs.Faults.{few_records}
use Rattle.live_slots.specs.Among.{among_of, Among}
use Rattle.live_slots.proofs.{Told.number_passed, Among.all_read, Among.all_among}

-- TWO READINGS THAT NO CALL TELLS APART: the same first fault, and where there is none, the same records
pub record Alike (b c : Reading) : Type 0 where
  pub first : first_fault b.faults ≡ first_fault c.faults
  pub records : c.faults ≡ [] → b.list ≡ c.list

-- WHERE `every_record` TELLS HOW MANY, nothing refuses the bank, and the records are all of it
pub every_read : (bank : List ℕ) (many : ℕ) → told_number (Ok many) ≡ unless (bank_faults bank) refused (answered (records_in (length bank)))
    → (bank_faults bank ≡ []) × (Among many bank) × (among_of many bank ≡ listed_of bank)
every_read bank many told =
    let p = number_passed many (bank_faults bank) (records_in (length bank)) told in
    rw p.1 (p.0, all_among bank (few_records (length bank) p.0), all_read bank)
