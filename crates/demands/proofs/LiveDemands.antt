-- DEMANDS 2 AND 3, READ OF LIVE RECORDS. Demand 2, and the passes, of any bank; exact boundaries of a bank edited from an empty one, with nothing
-- assumed but that: its ids are unique because edits keep them so.
use Rattle.rules.proofs.Kit.{ℕ, ◌+◌, ◌≤◌, ◌<◌, ◌≡◌, true, false, ◌⊎◌, List, [], ◌∷◌, List-as-Memᴰ, some}
use Rattle.rules.specs.{Order.Each, Records.Listed, Numbers.is_rejection, Numbers.where_eligible, Price.cost_under, Verdict.Judged, Rank.Candidate, Rank.eligibles}
use Rattle.rules.specs.{Rank.ranking, Count.total, Decide.stopped_by, Decide.decision_of, Decide.counts_in, Listing.first_listed, Levers.selects, Printed.entries_of}
use Rattle.rules.specs.{Slots.live_in, Slots.live_records, Live.live_what_would_win_of, Live.live_decision_margin_of, declared.records.KernelInput.KernelInput}
use Rattle.rules.specs.{declared.records.PolicySnapshot.PolicySnapshot}
use Rattle.rules.proofs.Slots.{live-each}
use Rattle.demands.specs.{Lists.Rising, Ranked.Beats, Ranked.InStrictOrder, Ranked.judged_live, Ranked.PlacesRise, Ranked.PlacesDiffer, Ranked.many_at}
use Rattle.demands.specs.{Keeping.kept_in_rust, Keeping.first_two, Demand3.question, Demand3.Unselected, Demand3.SwitchedOn, Demand3.WinExact}
use Rattle.demands.specs.{Demand3.OffExact, Demand3.MarginOfChoice, Demand3.win_passes, Demand3.margin_passes, Demand3.passes_to_win_over}
use Rattle.demands.specs.{Demand3.passes_to_keep_over, Demand3.most_to_win, Demand3.most_for_margin, Demand3.most_for_margin_within, Demand3.AreBytes}
use Rattle.demands.specs.{Demand3.BpsWithin, Edited.Edit, Edited.after_edits, Edited.empty_bank}
use Rattle.demands.proofs.{Lists.pairs-live, Places.bank_rising, Places.judged_rise, Places.rising_differ, Places.ranked_once, Places.ranking_strict}
use Rattle.demands.proofs.{Places.first-beats-all, Places.second-beats-others, Keeping.rust_keeps_ranking, Sums.counts-make-up, Winning.win_over_exact}
use Rattle.demands.proofs.{Margins.margin_over_exact, Unsearched.unsearched_over_empty, Unsearched.off_over_exact, Widest.Narrow, Widest.bytes_narrow}
use Rattle.demands.proofs.{Passes.win-over-passes, Passes.margin-over-passes, Passes.searched-over-passes, Passes.kept-over-passes, Passes.win-over-few}
use Rattle.demands.proofs.{Passes.margin-over-few, Passes.margin-over-few-within, Edited.from-empty-tidy, Edited.from-empty-faultless}

-- ---- demand 2, of any bank

-- Demand 2. THE PLACES OF LIVE RECORDS RISE
pub live_rising : (bank : List ℕ) → Rising (λ (l : Listed). l.place) (live_in bank)
live_rising bank = pairs-live (λ (l : Listed). l.model.model_id) _ _ (bank_rising bank)

module _ (p : PolicySnapshot) (q : KernelInput) (bank : List ℕ) where
  pub live-judged-rising : PlacesRise (judged_live p q bank)
  live-judged-rising = judged_rise p q (live_in bank) (live_rising bank)

  pub live-judged-different : PlacesDiffer (judged_live p q bank)
  live-judged-different = rising_differ (judged_live p q bank) live-judged-rising

  -- Demand 2. Each eligible live record stands in the ranking once, any other not at all; each is better than every one after it
  pub live-ranked-once : (j : Judged) → List-as-Memᴰ j (judged_live p q bank)
      → many_at j.listed.place (ranking (judged_live p q bank)) ≡ where_eligible j.verdict 1 0
  live-ranked-once j = ranked_once (judged_live p q bank) j live-judged-different

  pub live-ranking-strict : InStrictOrder (ranking (judged_live p q bank))
  live-ranking-strict = ranking_strict (judged_live p q bank) live-judged-different

  -- Demand 2. The chosen model is better than every other eligible live one, the counterfactual than all but these two
  pub live-chosen-beats-all : (c : Candidate) (rest : List Candidate) → ranking (judged_live p q bank) ≡ c ∷ rest
      → Each (λ x. (x ≡ c) ⊎ Beats c x) (eligibles (judged_live p q bank))
  live-chosen-beats-all = first-beats-all (judged_live p q bank) live-judged-different

  pub live-counterfactual-beats-others : (c d : Candidate) (rest : List Candidate) → ranking (judged_live p q bank) ≡ c ∷ d ∷ rest
      → Each (λ x. (x ≡ c) ⊎ (x ≡ d) ⊎ Beats d x) (eligibles (judged_live p q bank))
  live-counterfactual-beats-others = second-beats-others (judged_live p q bank) live-judged-different

  -- Demand 2. The Rust's loop over the live records ends with the first two of the ranking
  pub rust-keeps-of-live : kept_in_rust (eligibles (judged_live p q bank)) ≡ first_two (ranking (judged_live p q bank))
  rust-keeps-of-live = rust_keeps_ranking (judged_live p q bank) live-judged-rising

  -- Demand 2. The nine counts and the eligible models make up the evaluated ones
  pub live-counts-make-up : total (counts_in p q (live_in bank)) + (decision_of p q (live_in bank)).eligible ≡ (decision_of p q (live_in bank)).evaluated
  live-counts-make-up = counts-make-up p q (live_in bank)

  -- ---- demand 3, of any bank: the passes

  -- Demand 3. THE PASSES OF BOTH LIVE CALLS ARE THOSE OWED, whatever is asked
  pub live-win-passes : (id : ℕ) → (live_what_would_win_of p q bank id).passes ≡ passes_to_win_over p q (live_records bank) id
  unfolding live_what_would_win_of
  live-win-passes = win-over-passes p q (live_records bank)

  pub live-margin-passes : (live_decision_margin_of p q bank).passes ≡ passes_to_keep_over p q (live_records bank)
  unfolding live_decision_margin_of
  live-margin-passes = margin-over-passes p q (live_records bank)

  live-narrow : AreBytes bank → Each (λ l. Narrow l.model) (live_in bank)
  live-narrow h = live-each (λ (l : Listed). l.model.model_id) _ _ (bytes_narrow bank h)

  -- Demand 3. AT MOST 86 PASSES AND 103, of any bank of bytes; and 99 where its live records' qualities and ceilings are within 10,000
  pub live-win-few : (id : ℕ) → AreBytes bank → (live_what_would_win_of p q bank id).passes ≤ most_to_win
  unfolding live_what_would_win_of
  live-win-few id h = win-over-few p q (live_records bank) id (live-narrow h)

  pub live-margin-few : AreBytes bank → (live_decision_margin_of p q bank).passes ≤ most_for_margin
  unfolding live_decision_margin_of
  live-margin-few h = margin-over-few p q (live_records bank) (live-narrow h)

  pub live-margin-few-within : Each (λ l. BpsWithin 10000 l.model) (live_in bank) → (live_decision_margin_of p q bank).passes ≤ most_for_margin_within
  unfolding live_decision_margin_of
  live-margin-few-within = margin-over-few-within p q (live_records bank)

-- ---- demand 3, of a bank edited from an empty one of at most 65,535 slots, by any row of edits

module _ (n : ℕ) (few : n ≤ 65535) (es : List Edit) (p : PolicySnapshot) (q : KernelInput) where
  abbrev bank : List ℕ
  bank = after_edits (empty_bank n) es

  -- Demand 3, first half. WHAT WOULD WIN IS EXACT, for a live, switched-on model neither selected nor stopped by a request limit
  pub live-win-exact : (id : ℕ) (l : Listed) → Unselected (cost_under p) p q (live_in bank) id l → SwitchedOn l.model
      → WinExact (live_what_would_win_of p q bank id) (question (cost_under p) p q (live_in bank) id l.model)
  unfolding live_what_would_win_of
  live-win-exact id l = win_over_exact p q (live_records bank) id l (from-empty-faultless n es few) (from-empty-tidy n es).unique

  -- Demand 3, second half. THE MARGIN IS EXACT, where the decision is no rejection
  pub live-margin-exact : is_rejection (decision_of p q (live_in bank)) ≡ false → MarginOfChoice (cost_under p) p q (live_in bank) (live_decision_margin_of p q bank)
  unfolding live_decision_margin_of
  live-margin-exact = margin_over_exact p q (live_records bank) (from-empty-faultless n es few) (from-empty-tidy n es).unique

  -- Demand 3. STOPPED BY A REQUEST LIMIT, OR SELECTED ALREADY: no entry
  pub live-unsearched-empty : (id : ℕ) (l : Listed) → first_listed id (live_in bank) ≡ some l
      → (0 < stopped_by p q) ⊎ (selects id (decision_of p q (live_in bank)) ≡ true)
      → entries_of (live_what_would_win_of p q bank id) ≡ []
  unfolding live_what_would_win_of
  live-unsearched-empty id l = unsearched_over_empty p q (live_records bank) id l (from-empty-faultless n es few)

  -- Demand 3. SWITCHED OFF: enabled is listed exactly if switching it on selects the id
  pub live-off-exact : (id : ℕ) (l : Listed) → Unselected (cost_under p) p q (live_in bank) id l → l.model.enabled ≡ 0
      → OffExact (live_what_would_win_of p q bank id) (question (cost_under p) p q (live_in bank) id l.model)
  unfolding live_what_would_win_of
  live-off-exact id l = off_over_exact p q (live_records bank) id l (from-empty-faultless n es few)

  -- Demand 3. WHERE FOUR LEVERS ARE SEARCHED the passes are the halvings' own
  pub live-searched-passes : (id : ℕ) (l : Listed) → Unselected (cost_under p) p q (live_in bank) id l → SwitchedOn l.model
      → (live_what_would_win_of p q bank id).passes ≡ win_passes (question (cost_under p) p q (live_in bank) id l.model)
  unfolding live_what_would_win_of
  live-searched-passes id l = searched-over-passes p q (live_records bank) id l (from-empty-faultless n es few)

  pub live-kept-passes : (l : Listed) → is_rejection (decision_of p q (live_in bank)) ≡ false
      → first_listed (decision_of p q (live_in bank)).model (live_in bank) ≡ some l
      → (live_decision_margin_of p q bank).passes ≡ margin_passes (question (cost_under p) p q (live_in bank) (decision_of p q (live_in bank)).model l.model)
  unfolding live_decision_margin_of
  live-kept-passes l = kept-over-passes p q (live_records bank) l (from-empty-faultless n es few)
