-- `explain` over a bank, however it is read: what one that is refused is told, and one that isn't is its records. Assumes nothing.
use Rattle.rules.proofs.Kit.{ℕ, ◌≡◌, refl, sym, List, [], length}
use Rattle.rules.specs.{Records.Listed, Refused.first_fault, Refused.told_outcome, Listing.Reading}
use Rattle.rules.specs.{declared.refusal.Refusal.Refusal, declared.decision.KernelDecision.KernelDecision}
use Rattle.rules.specs.{Refused.room_faults, Numbers.told_prescribed, Explain.explain_over, Explain.explain_list_over, Explain.explanation_of}
use Rattle.rules.specs.{declared.records.KernelInput.KernelInput}
use Rattle.std.specs.Prelude.{Result, Err, IsErrAnd}
use Rattle.rules.specs.{declared.records.PolicySnapshot.PolicySnapshot}
use Rattle.rules.proofs.Faults.{append_refused, unless_refused, exit_answer}
use Rattle.explain.specs.Entries.{unrefused}

-- A BANK THAT IS REFUSED tells its reading's first fault, whatever room there is, and the list stays
pub reading_refused : (r : Result KernelDecision Refusal) (k : Refusal) (p : PolicySnapshot) (q : KernelInput) (b : Reading) (list : List ℕ)
    → IsErrAnd r (λ e. e ≡ k) → told_outcome (Err k) ≡ first_fault b.faults → (told_prescribed r ≡ explain_over p q b list) × (list ≡ explain_list_over p q b list)
reading_refused r k p q b list is told =
    let first = append_refused b.faults (room_faults (length (explanation_of p q b.list)) (length list)) refl told in
    (exit_answer _ r k _ _ is first, sym (unless_refused _ (λ f. list) _ refl first))

-- ONE THAT ISN'T is its records, with nothing refused
pub reading_passed : (b : Reading) (ls : List Listed) → b.faults ≡ [] → ls ≡ b.list → unrefused ls ≡ b
reading_passed b ls none same = λ i. record { faults = sym none i; list = same i }
