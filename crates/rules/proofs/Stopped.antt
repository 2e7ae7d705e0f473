-- A request that a limit stops is rejected, and any other is decided by the ranking, whatever models cost. Assumes nothing.
use Rattle.rules.proofs.Kit.{◌<◌, ◌≡◌, sym, ◌∙◌, true, false, false≢true, List, ⊎_elim, eq-zero-or-pos, arith}
use Rattle.rules.specs.{Records.Listed, Numbers.is_rejection, Price.Cost, Verdict.judged_by, Decide.stopped_by, Decide.rejection, Decide.by_verdicts}
use Rattle.rules.specs.{Decide.decision_by}
use Rattle.rules.specs.{declared.records.KernelInput.KernelInput, declared.records.PolicySnapshot.PolicySnapshot}
use Rattle.rules.proofs.Choices.{below-yes, below-no}

module _ (cost : Cost) (p : PolicySnapshot) (q : KernelInput) (ls : List Listed) where
  pub unstopped : stopped_by p q ≡ 0 → decision_by cost p q ls ≡ by_verdicts p q (judged_by cost p q ls)
  unfolding decision_by
  unstopped z = below-no 0 (stopped_by p q) (rejection p q (stopped_by p q) 0) (by_verdicts p q (judged_by cost p q ls)) (omega arith)

  pub stopped-rejects : 0 < stopped_by p q → is_rejection (decision_by cost p q ls) ≡ true
  unfolding decision_by rejection
  stopped-rejects h = rw (below-yes 0 (stopped_by p q) (rejection p q (stopped_by p q) 0) (by_verdicts p q (judged_by cost p q ls)) h)

  -- so what is not rejected was not stopped
  pub not_stopped : is_rejection (decision_by cost p q ls) ≡ false → stopped_by p q ≡ 0
  not_stopped e = ⊎_elim (λ z. z) (λ h. absurd (false≢true (sym e ∙ stopped-rejects h))) (eq-zero-or-pos (stopped_by p q))
