-- ANY TWO PERMITTED ANSWERS ARE EQUAL, outcome and row, for each call; and each decision of a batch is the one that `prescribe` gives, over every
-- record as over the live ones. Assumes nothing.
use Rattle.rules.proofs.Kit.{ℕ, ◌<◌, ◌≡◌, refl, ap, ap₂, List, [], ◌∷◌, Option, map, length, drop, get_or, length-map, List·get_d-append, List·get_d-map, drop_at}
use Rattle.rules.specs.{Bytes.filled, Refused.Fault, Refused.Faults, Refused.answered, Refused.list_unless, Refused.told_outcome, Numbers.told_decision}
use Rattle.rules.specs.{Numbers.Decision, Listing.Reading, Decide.decision_of, Decide.prescribe_over, Batch.batch_faults_over, Batch.batch_checked_faults_over}
use Rattle.rules.specs.{Batch.decisions_of, Batch.batch_row_over, Batch.batch_checked_row_over, Batch.batch_of, Batch.batch_row, Batch.batch_checked_of}
use Rattle.rules.specs.{Batch.batch_checked_row, Live.live_batch_of, Live.live_batch_row, Live.live_batch_checked_of, Live.live_batch_checked_row}
use Rattle.rules.specs.{declared.records.KernelInput.KernelInput, declared.records.PolicySnapshot.PolicySnapshot}
use Rattle.rules.specs.{declared.decision.KernelDecision.KernelDecision, declared.refusal.Refusal.Refusal}
use Rattle.std.specs.Prelude.{Result, ⊤}
use Rattle.rules.proofs.Told.{one_answer, one_outcome, decision_from, decision_back}

-- what is told of a row has a way back
rows_back : (l : List KernelDecision) → map decision_from (map told_decision l) ≡ l
rows_back [] = refl
rows_back (d ∷ l) = ap₂ ◌∷◌ (decision_back d) (rows_back l)

-- Two answers and two rows that one promise permits: the answer that the rule tells, and the row that it makes of a row
abbrev pub Same : (ℕ → Option Fault) → (List Decision → List Decision) → Type 0
Same answer rule =
    (row : List KernelDecision) (r s : Result ⊤ Refusal) (l m : List KernelDecision) → told_outcome r ≡ answer (length row) → told_outcome s ≡ answer (length row)
    → map told_decision l ≡ rule (map told_decision row) → map told_decision m ≡ rule (map told_decision row) → (r ≡ s) × (l ≡ m)

same : (answer : ℕ → Option Fault) (rule : List Decision → List Decision) → Same answer rule
same answer rule row r s l m e f is js = (one_outcome _ r s e f, one_answer (map told_decision) (map decision_from) rows_back _ l m is js)

module _ (p : PolicySnapshot) (bank : List ℕ) (qs : List KernelInput) where
  pub one_batch : Same (batch_of bank qs) (batch_row p bank qs)
  one_batch = same (batch_of bank qs) (batch_row p bank qs)

  pub one-batch-checked : Same (batch_checked_of bank qs) (batch_checked_row p bank qs)
  one-batch-checked = same (batch_checked_of bank qs) (batch_checked_row p bank qs)

  pub one-live-batch : Same (live_batch_of bank qs) (live_batch_row p bank qs)
  one-live-batch = same (live_batch_of bank qs) (live_batch_row p bank qs)

  pub one-live-batch-checked : Same (live_batch_checked_of bank qs) (live_batch_checked_row p bank qs)
  one-live-batch-checked = same (live_batch_checked_of bank qs) (live_batch_checked_row p bank qs)

module _ (p : PolicySnapshot) (b : Reading) (qs : List KernelInput) where
  -- EACH DECISION IS `prescribe`'S OWN, over a bank without faults, however it is read
  pub batch-own : b.faults ≡ [] → (i : ℕ) (q : KernelInput)
      → answered (get_or (decisions_of p b.list qs) i (decision_of p q b.list)) ≡ prescribe_over p (get_or qs i q) b
  unfolding decisions_of
  batch-own none i q = rw none (ap answered (List·get_d-map (λ (x : KernelInput). decision_of p x b.list) qs i q))

  -- and the row that is not refused has it in its place
  pub batch-places : (row : List Decision) → batch_faults_over b qs (length row) ≡ [] → (i : ℕ) (d : Decision) → i < length qs
      → get_or (batch_row_over p b qs row) i d ≡ get_or (decisions_of p b.list qs) i d
  unfolding decisions_of filled
  batch-places row none i d h =
      rw none (List·get_d-append (decisions_of p b.list qs) (drop (length (decisions_of p b.list qs)) row) d i (rw length-map h))

-- what is past the filled part of a list stays as it was
rest : {A : Type 0} (fs : Faults) (new list : List A) → drop (length new) (list_unless fs new list) ≡ drop (length new) list
unfolding filled
rest [] new list = drop_at new (drop (length new) list) (length new) refl
rest (f ∷ fs) new list = refl

-- PAST THE LAST REQUEST THE ROW IS AS IT WAS, refused or not
module _ (p : PolicySnapshot) (b : Reading) (qs : List KernelInput) (row : List Decision) where
  many : length (decisions_of p b.list qs) ≡ length qs
  unfolding decisions_of
  many = length-map qs (λ (q : KernelInput). decision_of p q b.list)

  pub batch-rest : drop (length qs) (batch_row_over p b qs row) ≡ drop (length qs) row
  batch-rest = rw many at (rest (batch_faults_over b qs (length row)) (decisions_of p b.list qs) row)

  pub batch-checked-rest : drop (length qs) (batch_checked_row_over p b qs row) ≡ drop (length qs) row
  batch-checked-rest = rw many at (rest (batch_checked_faults_over b qs (length row)) (decisions_of p b.list qs) row)
