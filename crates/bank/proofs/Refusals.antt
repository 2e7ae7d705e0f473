-- What `reading` tells of the record at a place: where it answers, and where it refuses. Assumes nothing.
use Rattle.rules.proofs.Kit.{ℕ, ◌+◌, ◌*◌, ◌≤◌, not, List, [], ◌≡◌, sym, arith, ltb-true, not-false, ltb, length}
use Rattle.rules.specs.{Limits.record_bytes, Records.records_in, Records.record_part, Refused.fault, Refused.bank_faults, Refused.told_outcome}
use Rattle.rules.specs.{Listing.reading_faults, Listing.reading_of, Listing.record_of, Listing.record_start, declared.refusal.Refusal.Refusal}
use Rattle.std.specs.Prelude.{⊤, Result, Ok, Err}
use Rattle.rules.proofs.Faults.{none_after, test_none, none_told, unless-passed, unless_refused}

module _ (bank : List ℕ) (place : ℕ) (o : Result ⊤ Refusal) (told : told_outcome o ≡ reading_of bank place) where
  -- AN ANSWER TELLS that the record lies within the bank
  pub answer-within : o ≡ Ok tt → record_bytes * place + record_bytes ≤ length bank
  unfolding reading_of reading_faults
  answer-within e =
      let within = ltb place (records_in (length bank)) in
      let none = none_after (bank_faults bank) _ (none_told (reading_faults bank place) e told) in
      omega (arith, ltb-true place (records_in (length bank)) (not-false within (test_none (not within) (fault 8) none)))

  -- and that the part handed back is the record, from where it begins
  pub answer-part : o ≡ Ok tt → record_part bank place ≡ record_of bank place
  unfolding reading_of record_of
  answer-part e = sym (unless-passed (reading_faults bank place) (λ f. []) (record_part bank place) e told)

  pub answer-start : o ≡ Ok tt → record_bytes * place ≡ record_start bank place
  unfolding reading_of record_start
  answer-start e = sym (unless-passed (reading_faults bank place) (λ f. 0) (record_bytes * place) e told)

  -- A REFUSAL TELLS that the part handed back is empty, and begins where the bank does
  pub refusal-part : (r : Refusal) → o ≡ Err r → ([] ≡ record_of bank place) × (0 ≡ record_start bank place)
  unfolding reading_of record_of record_start
  refusal-part r e =
      let none = unless_refused (reading_faults bank place) (λ f. []) (record_part bank place) e told in
      let start = unless_refused (reading_faults bank place) (λ f. 0) (record_bytes * place) e told in
      (sym none, sym start)
