-- WHAT A BATCH PROMISES over a bank, however it is read, and that readings that no call tells apart give the same batch. Assumes nothing.
use Rattle.rules.proofs.Kit.{◌≡◌, refl, ap, ◌∙◌, List, [], ◌∷◌, ◌++◌, map, length}
use Rattle.rules.specs.{Refused.Faults, Refused.told_outcome, Refused.first_fault, Refused.room_faults, Refused.list_unless, Numbers.told_decision, Numbers.Decision}
use Rattle.rules.specs.{Listing.Reading, Batch.requests_faults, Batch.batch_faults_over, Batch.decisions_of, Batch.batch_over, Batch.batch_row_over}
use Rattle.rules.specs.{Batch.batch_checked_over, Batch.batch_checked_row_over, declared.records.KernelInput.KernelInput}
use Rattle.rules.specs.{declared.records.PolicySnapshot.PolicySnapshot, declared.decision.KernelDecision.KernelDecision, declared.refusal.Refusal.Refusal}
use Rattle.std.specs.Prelude.{Result, ⊤}
use Rattle.rules.proofs.Faults.{first_joined, none_first}
use Rattle.batch_checks.proofs.Readings.{Alike}

-- By the policy, the bank as it is read, the requests and the row at entry: the answer, and the row at exit
abbrev pub Promise : Type 1
Promise = PolicySnapshot → Reading → List KernelInput → List KernelDecision → Result ⊤ Refusal → List KernelDecision → Type 0

abbrev pub Filled : Promise
Filled p b qs row x l = (told_outcome x ≡ batch_over b qs (length row)) × (map told_decision l ≡ batch_row_over p b qs (map told_decision row))

abbrev pub FilledChecked : Promise
FilledChecked p b qs row x l = (told_outcome x ≡ batch_checked_over b qs (length row)) × (map told_decision l ≡ batch_checked_row_over p b qs (map told_decision row))

-- whatever is tested after it
then_alike : (fs gs later : Faults) → first_fault fs ≡ first_fault gs → first_fault (fs ++ later) ≡ first_fault (gs ++ later)
then_alike fs gs later e = rw (first_joined, first_joined, e)

-- and so is a row that is filled where there is none
row_alike : {A : Type 0} (fs gs : Faults) (new other row : List A) → first_fault fs ≡ first_fault gs → (gs ≡ [] → new ≡ other)
    → list_unless fs new row ≡ list_unless gs other row
unfolding first_fault
row_alike [] [] new other row e f = ap (λ l. list_unless [] l row) (f refl)
row_alike [] (g ∷ gs) new other row e f = cc
row_alike (f ∷ fs) [] new other row e g = cc
row_alike (f ∷ fs) (g ∷ gs) new other row e h = refl

module _ (p : PolicySnapshot) (b c : Reading) (same : Alike b c) (qs : List KernelInput) where
  decided : c.faults ≡ [] → decisions_of p b.list qs ≡ decisions_of p c.list qs
  decided none = ap (λ ls. decisions_of p ls qs) (same.records none)

  first_alike : (room : _) → batch_over b qs room ≡ batch_over c qs room
  first_alike room = then_alike b.faults c.faults (room_faults (length qs) room) same.first

  checked-first-alike : (room : _) → batch_checked_over b qs room ≡ batch_checked_over c qs room
  checked-first-alike room = then_alike (batch_faults_over b qs room) (batch_faults_over c qs room) (requests_faults 0 qs) (first_alike room)

  module _ (row : List KernelDecision) (x : Result ⊤ Refusal) (l : List KernelDecision) where
    abbrev told : List Decision
    told = map told_decision row

    abbrev tests : Reading → Faults
    tests r = batch_faults_over r qs (length told)

    passed : tests c ≡ [] → c.faults ≡ []
    passed none = none_first c.faults (room_faults (length qs) (length told)) none

    pub filled-alike : Filled p b qs row x l → Filled p c qs row x l
    filled-alike said = (
      said.0 ∙ first_alike (length row),
      said.1 ∙ row_alike (tests b) (tests c) _ _ told (first_alike (length told)) (λ none. decided (passed none)),
    )

    pub checked-alike : FilledChecked p b qs row x l → FilledChecked p c qs row x l
    checked-alike said = (
      said.0 ∙ checked-first-alike (length row),
      said.1
          ∙ row_alike (tests b ++ requests_faults 0 qs) (tests c ++ requests_faults 0 qs) _ _ told (checked-first-alike (length told))
          (λ none. decided (passed (none_first (tests c) (requests_faults 0 qs) none))),
    )
