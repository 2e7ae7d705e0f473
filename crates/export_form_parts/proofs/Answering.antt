-- What each call leaves, from what the calls below it tell. Assumes nothing.
use Rattle.rules.proofs.Kit.{ℕ, ◌+◌, ◌<◌, ◌≤◌, ◌≡◌, ◌∙◌, Bool, true, false, List, [], ◌∷◌, ◌++◌, arith, lt-ltb, ltb, length}
use Rattle.rules.specs.{Limits.longest_policy_bytes, Limits.request_bytes, Bytes.bytes_of, Refused.Faults, Refused.fault, Refused.refuse_if}
use Rattle.rules.specs.{Refused.first_fault, Refused.told_outcome, Refused.room_faults, Refused.list_unless, Refused.answered}
use Rattle.rules.specs.{Stored.form_faults, Stored.stored_tags, Stored.stored_bank, Stored.read_faults}
use Rattle.std.specs.Prelude.{Ok, ⊤}
use Rattle.rules.proofs.Faults.{passed}
use Rattle.endian_writing.specs.Put.{patched}
use Rattle.endian_writing.proofs.Stored.{patch_join}
use Rattle.export_checks.specs.Checks.{word_at, word_of, word_size, delivered, handed}
use Rattle.export_checks.proofs.{Tests.room_first, Handed.delivered_so}
use Rattle.export_form_parts.specs.Parts.{stored_size, stored_bytes, stored_in, roomless_faults, read_stored_call, read_request_faults}

-- The request form passes and has no room
pub request_short : (form : List ℕ) (room : ℕ) → form_faults (3 ∷ []) form ≡ [] → room < request_bytes → read_request_faults form room ≡ fault 4 ∷ []
request_short form room e h = rw (e, room_first request_bytes room h)

-- The form has no fault of its own: 4
pub four_left : {u : ⊤} {w : ℕ} (fs : Faults) → told_outcome (Ok u) ≡ first_fault fs → w ≡ word_at 0 (fault 4)
    → w ≡ word_of (first_fault (fs ++ (fault 4 ∷ [])))
unfolding first_fault
four_left fs h k = rw (passed fs h) k

-- The policy that was read has no room: the form's own fault, else 4, and neither buffer is written
pub roomless_so : {w : ℕ} (form bank out : List ℕ) → length out < stored_size → w ≡ word_of (first_fault (roomless_faults form))
    → ((w, out), bank) ≡ read_stored_call form bank out
unfolding read_faults room_faults first_fault handed
roomless_so {w} form bank out short h =
    rw (lt-ltb (length out) stored_size short)
    (go (form_faults stored_tags form) (ltb (length bank) (length (stored_bank form))) h)
  where
    leaves : Faults → (ℕ × List ℕ) × List ℕ
    leaves fs = (handed stored_bytes fs (answered (stored_in form)) out, list_unless fs (stored_bank form) bank)

    go : (fs : Faults) (t : Bool) → w ≡ word_of (first_fault (fs ++ (fault 4 ∷ [])))
        → ((w, out), bank) ≡ leaves ((fs ++ refuse_if t (fault 4)) ++ (fault 4 ∷ []))
    go [] true e = rw e
    go [] false e = rw e
    go (f ∷ fs) t e = rw e

-- A policy at the start of a buffer, and a length right after it
pub policy_and_length : {e g : List ℕ} (d head : List ℕ) (n : ℕ) → length head ≡ longest_policy_bytes → stored_size ≤ length d
    → e ≡ patched d 0 head → g ≡ patched e longest_policy_bytes (bytes_of word_size n) → (0, g) ≡ delivered (head ++ bytes_of word_size n) d
policy_and_length d head n long room first second =
    let next : longest_policy_bytes ≡ 0 + length head = omega (arith, long) in
    let join = patch_join d 0 head (bytes_of word_size n) (omega (arith, long, room)) in
    delivered_so _ _ (second ∙ (λ i. patched (first i) (next i) (bytes_of word_size n)) ∙ join)
