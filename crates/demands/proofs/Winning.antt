-- DEMAND 3, first half: what `what_would_win` answers is exact. Assumed: unique ids; and over any list, a cost that doesn't fall where prices rise.
use Rattle.rules.proofs.Kit.{ℕ, ◌≡◌, refl, sym, ap, subst, ◌∙◌, false, List, [], ne_eqb}
use Rattle.rules.specs.{Limits.max_bps, Limits.ppm, Records.Listed, Records.listed_of, Refused.no_fault, Refused.bank_faults, Price.Cost, Price.cost_under}
use Rattle.rules.specs.{Listing.Reading, Listing.every_record, Decide.decision_by, Halving.Lowest, Halving.Highest, Halving.search_of, Levers.wins}
use Rattle.rules.specs.{Levers.boundary_of, Win.win_levers, Win.win_search, Win.win_for, Win.win_by, Win.win_in, Win.what_would_win_over, Win.what_would_win_of}
use Rattle.rules.specs.{declared.records.KernelInput.KernelInput, declared.records.PolicySnapshot.PolicySnapshot, Printed.entries_of}
use Rattle.demands.specs.{Standing.RisesWithPrices, Standing.UniqueIds, Demand3.win_quality, Demand3.win_latency, Demand3.win_price, Demand3.win_ceiling}
use Rattle.demands.specs.{Demand3.question, Demand3.Unselected, Demand3.SwitchedOn, Demand3.WinExact}
use Rattle.demands.proofs.{Favours.quality_ordered, Favours.latency_ordered, Favours.price_ordered, Favours.ceiling_ordered, Varied.turns-once}
use Rattle.demands.proofs.{Rounding.cost_rises, Entries.used_sought, Entries.not_refused, Entries.Answers, Entries.answers, Entries.won}

-- a bank that nothing refuses is answered over its records, however it is read
pub answered_win : (p : PolicySnapshot) (q : KernelInput) (b : Reading) (id : ℕ) → b.faults ≡ [] → what_would_win_over p q b id ≡ win_in p q b.list id
answered_win p q b id e = rw e

module _ (costs : Cost) (p : PolicySnapshot) (q : KernelInput) (ls : List Listed) (id : ℕ) (l : Listed) (u : Unselected costs p q ls id l) where
  -- neither stopped nor selected: the search is made
  pub searched : win_by costs p q ls id ≡ boundary_of id (decision_by costs p q ls) false (win_search (question costs p q ls id l.model))
  unfolding win_by win_for
  searched = rw (u.listed, u.runs_on, u.not_selected)

  pub used-searched : entries_of (win_by costs p q ls id) ≡ (win_search (question costs p q ls id l.model)).entries
  used-searched = ap entries_of searched ∙ used_sought id (decision_by costs p q ls) false (win_search (question costs p q ls id l.model))

  pub no-refusal : (win_by costs p q ls id).refusal ≡ no_fault
  no-refusal = rw searched (not_refused id (decision_by costs p q ls) false (win_search (question costs p q ls id l.model)))

  -- switched on: four levers, and what they found
  found-to-win : SwitchedOn l.model
      → let a =
      question costs p q ls id l.model in Answers (win_by costs p q ls id) a (search_of Lowest (wins a 1) l.model.quality_bps max_bps)
      (search_of Highest (wins a 2) 0 l.model.p95_latency_ms) (search_of Highest (wins a 3) 0 ppm)
      (search_of Lowest (wins a 4) l.model.risk_ceiling_bps max_bps)
  unfolding win_search win_levers
  found-to-win h =
      answers (win_by costs p q ls id) (question costs p q ls id l.model) _ _ _ _
      (used-searched ∙ rw (ne_eqb l.model.enabled 0 h))

  -- Demand 3, first half. WHAT WOULD WIN IS EXACT, over any list with unique ids and by any cost that doesn't fall where prices rise
  pub win-exact : RisesWithPrices costs → UniqueIds ls → SwitchedOn l.model → WinExact (win_by costs p q ls id) (question costs p q ls id l.model)
  win-exact rises unique h =
      let f = found-to-win h in
      let turns = turns-once costs rises p q ls id l unique u.listed in
      record {
        answered = no-refusal;
        quality = won (λ b. refl) (turns 1 Lowest quality_ordered (win_quality l.model)) f.quality;
        latency = won (λ b. refl) (turns 2 Highest latency_ordered (win_latency l.model)) f.latency;
        price = won (λ b. refl) (turns 3 Highest price_ordered win_price) f.price;
        ceiling = won (λ b. refl) (turns 4 Lowest ceiling_ordered (win_ceiling l.model)) f.ceiling;
        whole = f.whole;
      }

-- Demand 3, first half. WHAT WOULD WIN IS EXACT, however a bank is read and its policy rounds, where nothing refuses it and its records have unique
-- ids: for a listed, switched-on model neither selected nor stopped by a request limit
pub win_over_exact : (p : PolicySnapshot) (q : KernelInput) (b : Reading) (id : ℕ) (l : Listed) → b.faults ≡ [] → UniqueIds b.list
    → Unselected (cost_under p) p q b.list id l → SwitchedOn l.model
    → WinExact (what_would_win_over p q b id) (question (cost_under p) p q b.list id l.model)
win_over_exact p q b id l none unique u on =
    subst (λ answer. WinExact answer (question (cost_under p) p q b.list id l.model)) (sym (answered_win p q b id none))
    (win-exact (cost_under p) p q b.list id l u (cost_rises p.rounding) unique on)

-- Demand 3, first half. So it is with every record of a bank
pub what_would_win_exact : (p : PolicySnapshot) (q : KernelInput) (bank : List ℕ) (id : ℕ) (l : Listed) → bank_faults bank ≡ [] → UniqueIds (listed_of bank)
    → Unselected (cost_under p) p q (listed_of bank) id l → SwitchedOn l.model
    → WinExact (what_would_win_of p q bank id) (question (cost_under p) p q (listed_of bank) id l.model)
unfolding what_would_win_of
what_would_win_exact p q bank id l = win_over_exact p q (every_record bank) id l
