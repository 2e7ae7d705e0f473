-- A SCAN OF ALL SLOTS, less those that are not read, is that of the records that are. Assumes nothing.
use Rattle.rules.proofs.Kit.{ℕ, ◌+◌, ◌-◌, ◌/◌, ◌≤◌, ◌≡◌, sym, ap, ◌∙◌, List, length, arith}
use Rattle.rules.specs.{Records.listed_of, Price.cost_under, Verdict.judged, Count.counts_of, Decide.by_verdicts, declared.records.KernelInput.KernelInput}
use Rattle.rules.specs.{declared.records.PolicySnapshot.PolicySnapshot, declared.decision.RejectionHistogram.RejectionHistogram}
use Rattle.live_slots.specs.Among.{among_of, Among}
use Rattle.live_slots.proofs.{LeftOut.more_off, Among.eligibles-read, Among.ranking-read, Among.counts-read, Among.read-many}
use Rattle.kernel_ranking.specs.{State.top_of, State.state_of, declared.state.State.State}
use Rattle.kernel_decide.specs.Decide.{decision_of_scan}
use Rattle.kernel_decide.proofs.Decisions.{state-decides}
use Rattle.kernel_among.specs.Less.{fewer_off, less_off}

-- what was put on is taken off again
off_again : (k : ℕ) (c : RejectionHistogram) → fewer_off k (more_off k c) ≡ c
off_again k c = λ i. record {
  disabled = back i;
  quality = c.quality;
  risk_ceiling = c.risk_ceiling;
  latency = c.latency;
  capability = c.capability;
  provider = c.provider;
  region = c.region;
  budget = c.budget;
  utility = c.utility;
}
  where
    back : c.disabled + k - k ≡ c.disabled
    back = omega arith

module _ (p : PolicySnapshot) (q : KernelInput) (bank : List ℕ) (many : ℕ) (seen : Among many bank) {s : State}
    (run : s ≡ state_of (judged p q (listed_of bank))) where
  abbrev unread : ℕ
  unread = length bank / 47 - many

  its-counts : s.counts ≡ more_off unread (counts_of (judged p q (among_of many bank)))
  unfolding state_of
  its-counts = ap (λ (x : State). x.counts) run ∙ counts-read many bank seen p q

  -- THERE ARE ENOUGH to take off
  pub enough-off : length bank / 47 - many ≤ s.counts.disabled
  enough-off = omega (arith, ap (λ (c : RejectionHistogram). c.disabled) its-counts)

  pub read-state : {t : State} → t ≡ less_off s (length bank / 47 - many) → t ≡ state_of (judged p q (among_of many bank))
  unfolding less_off state_of
  read-state e = e ∙ (λ i. record {
    counts = (ap (fewer_off unread) its-counts ∙ off_again unread (counts_of (judged p q (among_of many bank)))) i;
    top = (ap (λ (x : State). x.top) run ∙ ap top_of (sym (ranking-read many bank seen (cost_under p) p q))) i;
    eligible = (ap (λ (x : State). x.eligible) run ∙ ap length (sym (eligibles-read many bank seen (cost_under p) p q))) i;
  })

  module _ {t : State} (e : t ≡ less_off s (length bank / 47 - many)) where
    pub read-decides : decision_of_scan p q t many ≡ by_verdicts p q (judged p q (among_of many bank))
    read-decides =
        let read = state_of (judged p q (among_of many bank)) in
        rw (read-state e) (ap (decision_of_scan p q read) (sym (read-many many bank seen)) ∙ state-decides p q (among_of many bank))

    pub read-counts : t.counts ≡ counts_of (judged p q (among_of many bank))
    unfolding state_of
    read-counts = ap (λ (x : State). x.counts) (read-state e)

    pub read-top : t.top ≡ s.top
    unfolding less_off
    read-top = ap (λ (x : State). x.top) e
