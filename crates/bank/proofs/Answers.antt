-- ANY TWO PERMITTED ANSWERS ARE EQUAL, for each call that a user makes. Assumes nothing.
use denote.Ref.{Bor}
use Rattle.rules.proofs.Kit.{ℕ, ◌+◌, ◌≡◌, sym, ◌∙◌, List}
use Rattle.rules.specs.{Refused.told_outcome, Listing.reading_of, Listing.record_of, Listing.record_start}
use Rattle.rules.proofs.Told.{Same, one_outcome}

pub one_reading : (bank : List ℕ) (place : ℕ) → Same told_outcome (reading_of bank place)
one_reading bank place = one_outcome _

-- What `record_at` promises of a reference into a bank: its bytes, and where it begins
abbrev pub Handed : Bor (List ℕ) → ℕ → Bor (List ℕ) → Type 0
Handed bank place r = (r.now ≡ record_of bank.now place) × (r.ref_ptr ≡ (bank.ref_ptr.0, record_start bank.now place + bank.ref_ptr.1))

-- Of a reference a program has the pointer and, by its length and through it, the bytes. Both are one; the third part of a reference here is
-- the name by which proofs follow the bytes, which no program sees
pub one_record : (bank : Bor (List ℕ)) (place : ℕ) (r s : Bor (List ℕ)) → Handed bank place r → Handed bank place s → (r.now ≡ s.now) × (r.ref_ptr ≡ s.ref_ptr)
one_record bank place r s p q = (p.0 ∙ sym q.0, p.1 ∙ sym q.1)
