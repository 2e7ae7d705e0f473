-- What a batch answers and leaves in the row, by whether its tests refuse it. Assumes nothing.
use Rattle.rules.proofs.Kit.{ℕ, ◌≡◌, refl, sym, ap, ◌∙◌, List, [], map, length, length-map}
use Rattle.rules.specs.{Bytes.filled, Refused.Faults, Refused.list_unless, Refused.told_outcome, Refused.first_fault, declared.refusal.Refusal.Refusal}
use Rattle.std.specs.Prelude.{Result, Ok, Err, ⊤, IsErrAnd}
use Rattle.rules.proofs.Faults.{exit_is, unless_refused}

-- A batch's tests are told the room as a row's length, and what is told of the row has as many places.

-- REFUSED, the row is as it was
pub refused_both : {A B : Type 0} (r : Result ⊤ Refusal) (k : Refusal) (fs : ℕ → Faults) (told : A → B) (row : List A) (new : List B) → IsErrAnd r (λ e. e ≡ k)
    → told_outcome (Err k) ≡ first_fault (fs (length row))
    → (told_outcome r ≡ first_fault (fs (length row))) × (map told row ≡ list_unless (fs (length (map told row))) new (map told row))
refused_both r k fs told row new h is = rw length-map
    (ap told_outcome (exit_is r k h) ∙ is, sym (unless_refused (fs (length row)) (λ f. map told row) (filled new (map told row)) refl is))

-- WHERE NOTHING REFUSES IT, the row is filled
pub answered_both : {A B : Type 0} (fs : ℕ → Faults) (told : A → B) (row after : List A) (new : List B) → fs (length row) ≡ []
    → map told after ≡ filled new (map told row)
    → (told_outcome (Ok tt) ≡ first_fault (fs (length row))) × (map told after ≡ list_unless (fs (length (map told row))) new (map told row))
unfolding told_outcome first_fault
answered_both fs told row after new none is = rw (length-map, none) (refl, is)
