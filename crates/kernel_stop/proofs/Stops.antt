-- What a stopped request is answered, and one that isn't. Assumes nothing.
use Rattle.rules.proofs.Kit.{ℕ, ◌<◌, le_of_eq, ◌≡◌, sym, ap, ◌∙◌, List}
use Rattle.rules.specs.{Refused.refused, Refused.fault, Numbers.reason_no, Records.Listed, Listing.first_listed, Price.cost_under, Verdict.judged, Count.no_counts}
use Rattle.rules.specs.{Count.counts_of, Decide.stopped_by, Decide.rejection, Decide.by_verdicts, Decide.decision_by, Decide.decision_of, Decide.counts_in}
use Rattle.rules.specs.{Decide.if_listed, Decide.utility_in, declared.records.KernelInput.KernelInput, declared.records.PolicySnapshot.PolicySnapshot}
use Rattle.rules.specs.{declared.decision.KernelReason.KernelReason}
use Rattle.rules.proofs.{Choices.below-yes, Choices.below-no, Stopped.unstopped, Reasons.reason_some}
use Rattle.kernel_stop.specs.{Stop.told_stop}
use Rattle.std.specs.Prelude.{Some, None}

-- A REQUEST THAT NOTHING STOPS, whose stop has number 0, is decided over the records
module _ (p : PolicySnapshot) (q : KernelInput) (told : told_stop None ≡ stopped_by p q) where
  pub open_free : stopped_by p q ≡ 0
  unfolding told_stop
  open_free = sym told

  pub open-decision : (ls : List Listed) → decision_of p q ls ≡ by_verdicts p q (judged p q ls)
  open-decision ls = unstopped (cost_under p) p q ls open_free

  pub open-counts : (ls : List Listed) → counts_in p q ls ≡ counts_of (judged p q ls)
  unfolding counts_in
  open-counts ls = below-no _ _ _ _ (le_of_eq open_free)

  pub open-utility : (id : ℕ) (ls : List Listed) → utility_in p q id ls ≡ if_listed p q (first_listed id ls)
  unfolding utility_in
  open-utility id ls = below-no _ _ _ _ (le_of_eq open_free)

-- A STOPPED REQUEST, whose stop has its reason's number, is a rejection that evaluates no record
module _ (p : PolicySnapshot) (q : KernelInput) (r : KernelReason) (told : told_stop (Some r) ≡ stopped_by p q) where
  by_number : stopped_by p q ≡ reason_no r
  unfolding told_stop
  by_number = sym told

  pub by_high : 0 < stopped_by p q
  by_high = rw by_number (reason_some r)

  pub stopped-decision : (ls : List Listed) → decision_of p q ls ≡ rejection p q (reason_no r) 0
  unfolding decision_by
  stopped-decision ls = below-yes _ _ _ _ by_high ∙ ap (λ n. rejection p q n 0) by_number

  pub stopped-counts : (ls : List Listed) → counts_in p q ls ≡ no_counts
  unfolding counts_in
  stopped-counts ls = below-yes _ _ _ _ by_high

  pub stopped-utility : (id : ℕ) (ls : List Listed) → utility_in p q id ls ≡ refused (fault 7)
  unfolding utility_in
  stopped-utility id ls = below-yes _ _ _ _ by_high
