-- The best two that a decision was made from, where the request is stopped and where it isn't. Assumes nothing.
use Rattle.rules.proofs.Kit.{arith, ◌≡◌, sym, ap, ◌∙◌, List}
use Rattle.rules.specs.{Records.Listed, Verdict.judged, Rank.ranking, Count.no_counts, Count.counts_of, Count.counts_from, Decide.stopped_by}
use Rattle.rules.specs.{declared.records.KernelInput.KernelInput}
use Rattle.rules.specs.{declared.records.PolicySnapshot.PolicySnapshot, declared.decision.KernelReason.KernelReason}
use Rattle.rules.proofs.Choices.{below-yes, below-no}
use Rattle.kernel_stop.proofs.Stops.{open_free, by_high}
use Rattle.kernel_ranking.specs.{State.top_of, State.state_of, State.start_of, declared.state.State.State}
use Rattle.kernel_stop.specs.Stop.{told_stop}
use Rattle.std.specs.Prelude.{Some, None}
use Rattle.kernel_among.specs.Top.{top_in}

module _ (p : PolicySnapshot) (q : KernelInput) (ls : List Listed) where
  -- A REQUEST THAT NOTHING STOPS ranks the list
  pub top-free : stopped_by p q ≡ 0 → top_in p q ls ≡ top_of (ranking (judged p q ls))
  unfolding top_in
  top-free free = below-no 0 (stopped_by p q) _ _ (omega arith)

  pub open-top : {t : State} → told_stop None ≡ stopped_by p q → t ≡ state_of (judged p q ls) → t.top ≡ top_in p q ls
  unfolding state_of
  open-top told e = ap (λ (t : State). t.top) e ∙ sym (top-free (open_free p q told))

  -- ONE THAT IS STOPPED ranks none
  pub stopped-top : (r : KernelReason) {t : State} → told_stop (Some r) ≡ stopped_by p q → t ≡ start_of → t.top ≡ top_in p q ls
  unfolding top_in state_of ranking
  stopped-top r told e = ap (λ (t : State). t.top) e ∙ sym (below-yes 0 (stopped_by p q) _ _ (by_high p q r told))

-- Before the first record none is counted
pub start_counts : {t : State} → t ≡ start_of → t.counts ≡ no_counts
unfolding state_of counts_of counts_from
start_counts e = ap (λ (t : State). t.counts) e
