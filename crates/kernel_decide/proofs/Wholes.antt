-- What a scan of a whole bank comes to, as it is and with another record at a place. Assumes nothing.
use Rattle.rules.proofs.Kit.{ℕ, ◌/◌, ◌≡◌, sym, ap, ◌∙◌, List, length, set, length-set}
use Rattle.rules.specs.{Records.listed, Records.listed_of, Records.model_of, Verdict.judged, Count.counts_of, Decide.by_verdicts}
use Rattle.rules.specs.{declared.records.KernelInput.KernelInput, declared.records.PolicySnapshot.PolicySnapshot}
use Rattle.pricing.specs.{Pricing.pricing_of, declared.Pricing.Pricing}
use Rattle.kernel_ranking.specs.{State.state_of, State.start_of, After.scan_of, declared.state.State.State}
use Rattle.kernel_ranking.proofs.{States.run-start, Verdicts.scan_run}
use Rattle.kernel_scan.specs.Places.{placed_from}
use Rattle.bank.proofs.Listing.{length-listed}
use Rattle.kernel_scan.proofs.Places.{placed_all}
use Rattle.kernel_decide.specs.Decide.{decision_of_scan}
use Rattle.kernel_decide.proofs.Decisions.{state-decides}

module _ (p : PolicySnapshot) (q : KernelInput) (bank : List ℕ) {pr : Pricing} {from s : State} (priced : pr ≡ pricing_of p q) (start : from ≡ start_of)
    (run : s ≡ scan_of pr q from (placed_from 0 bank)) where
  -- A SCAN OF THE WHOLE BANK HOLDS WHAT ITS RECORDS COME TO
  pub whole-state : s ≡ state_of (judged p q (listed_of bank))
  whole-state = run ∙ rw (priced, start, placed_all) (scan_run p q start_of (listed_of bank) ∙ run-start p q (listed_of bank))

  pub whole-counts : s.counts ≡ counts_of (judged p q (listed_of bank))
  unfolding state_of
  whole-counts = ap (λ (x : State). x.counts) whole-state

  -- AND COMES TO THE DECISION
  pub whole-decides : decision_of_scan p q s (length bank / 47) ≡ by_verdicts p q (judged p q (listed_of bank))
  whole-decides = rw (whole-state, ← length-listed bank) (state-decides p q (listed_of bank))

-- THE SCAN OF A BANK WITH ANOTHER RECORD COMES TO ITS DECISION
pub parts_decide : (bank : List ℕ) (place : ℕ) (stand : List ℕ) (p : PolicySnapshot) (q : KernelInput) {pr : Pricing} {s : State} → pr ≡ pricing_of p q
    → s ≡ scan_of pr q start_of (set (listed_of bank) place (listed place (model_of stand)))
    → decision_of_scan p q s (length bank / 47) ≡ by_verdicts p q (judged p q (set (listed_of bank) place (listed place (model_of stand))))
parts_decide bank place stand p q {pr} {s} priced run =
    let ls = set (listed_of bank) place (listed place (model_of stand)) in
    let n : length bank / 47 ≡ length ls = sym (length-set (listed_of bank) place (listed place (model_of stand)) ∙ length-listed bank) in
    let e : s ≡ state_of (judged p q ls) = run ∙ rw priced (scan_run p q start_of ls ∙ run-start p q ls) in
    rw (e, n) (state-decides p q ls)
