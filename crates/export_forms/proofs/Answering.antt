-- What each call leaves, from what the calls below it tell. Assumes nothing.
use Rattle.rules.proofs.Kit.{ℕ, ◌<◌, ◌≤◌, ◌≡◌, List, [], ◌∷◌, lt-ltb, le-ltb, length}
use Rattle.rules.specs.{Records.records_in, Refused.Faults, Refused.fault, Refused.bank_faults, Refused.room_faults, Refused.list_unless, Refused.Answer}
use Rattle.rules.specs.{Refused.answered, Listing.reading_faults}
use Rattle.rules.proofs.Faults.{none_first}
use Rattle.export_checks.specs.Checks.{word_size, lent_faults, handed, itself}
use Rattle.export_checks.proofs.Handed.{Told}
use Rattle.export_forms.specs.Forms.{record_at_faults, written_word}

-- ---- a record's offset

module _ (bank : List ℕ) (place room : ℕ) (e : lent_faults bank word_size room ≡ []) where
  bank-passes : bank_faults bank ≡ []
  bank-passes = none_first (bank_faults bank) (room_faults word_size room) e

  -- the bank and the room pass: 8, or nothing
  pub place-beyond : records_in (length bank) ≤ place → record_at_faults bank place room ≡ fault 8 ∷ []
  unfolding reading_faults
  place-beyond h = rw (e, bank-passes, le-ltb place (records_in (length bank)) h)

  pub place-within : place < records_in (length bank) → record_at_faults bank place room ≡ []
  unfolding reading_faults
  place-within h = rw (e, bank-passes, lt-ltb place (records_in (length bank)) h)

-- ---- forms

-- A form that was written: the word tells what was refused, and the buffer holds the form or is as it was
pub written_so : {t : Answer ℕ} {w n : ℕ} {after : List ℕ} (fs : Faults) (form out : List ℕ) → Told t fs n → after ≡ list_unless fs form out
    → w ≡ written_word t → (w, after) ≡ handed itself fs (answered form) out
unfolding handed
written_so [] form out h k e = rw (e, h.is, k)
written_so (f ∷ fs) form out h k e = rw (e, h.is, k)
