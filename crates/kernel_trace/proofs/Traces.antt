-- A decision with its trace, by its parts. Assumes nothing.
use Rattle.rules.proofs.Kit.{◌≡◌, List}
use Rattle.rules.specs.{Numbers.Decision, Records.Listed, Decide.decision_of, Decide.counts_in, Decide.trace_of, Decide.traced_of}
use Rattle.rules.specs.{declared.records.KernelInput.KernelInput, declared.records.PolicySnapshot.PolicySnapshot}
use Rattle.rules.specs.{declared.decision.DecisionTrace.DecisionTrace, declared.decision.RejectionHistogram.RejectionHistogram}

pub traced_told : {d : Decision} {counts : RejectionHistogram} {t : DecisionTrace} (p : PolicySnapshot) (q : KernelInput) (ls : List Listed)
    → d ≡ decision_of p q ls → counts ≡ counts_in p q ls → t ≡ trace_of d counts → record { decision = d; trace = t } ≡ traced_of p q ls
traced_told p q ls e f g = rw (g, e, f)
