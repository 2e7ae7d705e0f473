-- What a scan holds, record by record: one more, some more, and the sum of the counts. Assumes nothing.
use Rattle.kernel_ranking.proofs.Steps.{turned_away, step_of, run_of}
use Rattle.rules.proofs.Kit.{ℕ, suc, ◌+◌, ◌<◌, arith, ◌≡◌, refl, ◌∙◌, Bool, true, false, cond, List, [], ◌∷◌, ◌++◌, append-nil, append_assoc, foldl}
use Rattle.rules.proofs.Kit.{map-append}
use Rattle.rules.proofs.Kit.{ltb, eqb, eqb-true, ℤ, pos, length, length-append, le_z}
use Rattle.rules.specs.{Choice.below, Choice.equal, Numbers.Verdict, Records.Listed, Gates.gate_of, Gates.detail_of, Utility.utility_of}
use Rattle.rules.specs.{Verdict.Judged, Verdict.judge, Verdict.judged, Verdict.rejected, Verdict.over_budget, Verdict.with_terms, Verdict.by_utility}
use Rattle.rules.specs.{Verdict.verdict_costing, Verdict.verdict_of, Order.sorted_by, Order.InOrder, Rank.Candidate, Rank.candidate_of, Rank.better, Rank.keep}
use Rattle.rules.specs.{Rank.eligibles}
use Rattle.rules.specs.{Rank.ranking, Count.counted_for, Count.counts_of, Count.raised_by, Count.total, declared.records.KernelModel.KernelModel}
use Rattle.rules.specs.{declared.records.KernelInput.KernelInput, declared.records.PolicySnapshot.PolicySnapshot}
use Rattle.rules.specs.{declared.decision.RejectionHistogram.RejectionHistogram}
use Rattle.rules.proofs.{Sorted.sorted-each, Sorted.sorted-snoc, Better.ranking_in_order, Counts.judged_snoc, Counts.raised_none}
use Rattle.kernel_ranking.specs.{State.top_of, State.held_of, State.state_of, State.ranked_of, State.state_entered}
use Rattle.kernel_ranking.specs.{State.start_of, declared.state.State.State}
use Rattle.kernel_ranking.proofs.{Orders.Positive, Orders.positive, Ranking.AllPositive, Ranking.top_insert}

-- ---- an eligible model's utility is above 0

abbrev Worthy : ℤ → Verdict → Type 0
Worthy u v = v.kind ≡ 4 → Positive u

abbrev Worth : Verdict → Type 0
Worth v = Worthy v.utility v

either : (b : Bool) (u v : Verdict) → Worth u → Worth v → Worth (cond b u v)
either true u v h k = h
either false u v h k = k

not_four : {A : Type 0} (n : ℕ) → n < 4 → n ≡ 4 → A
not_four n h e = absurd (omega arith)

module _ (p : PolicySnapshot) (q : KernelInput) (m : KernelModel) (cost : ℕ) where
  worth-terms : (b : Bool) → le_z (utility_of p m q cost) (pos 0) ≡ b → Worth (with_terms p q m cost (cond b 3 4))
  worth-terms true e = not_four 3 (omega arith)
  worth-terms false e = λ k. positive (utility_of p m q cost) e

  worth-priced : Worth (by_utility p q m cost)
  unfolding by_utility
  worth-priced = worth-terms (le_z (utility_of p m q cost) (pos 0)) refl

  pub verdict-worth : (verdict_costing p q m cost).kind ≡ 4 → Positive (verdict_costing p q m cost).utility
  unfolding verdict_costing below
  verdict-worth =
      either (ltb 0 (gate_of m q)) (rejected (gate_of m q) (detail_of m q (gate_of m q))) _ (not_four 1 (omega arith))
      (either (ltb q.budget_limit_microunits cost) (over_budget cost q.budget_limit_microunits) _
      (not_four 2 (omega arith)) worth-priced)

module _ (p : PolicySnapshot) (q : KernelInput) where
  kept-positive : (l : Listed) (cs : List Candidate) → AllPositive cs → AllPositive (keep (judge p q l) cs)
  unfolding equal
  kept-positive l cs a = go (eqb (verdict_of p q l.model).kind 4) refl
    where
      go : (t : Bool) → eqb (verdict_of p q l.model).kind 4 ≡ t → AllPositive (cond t (candidate_of (judge p q l) ∷ cs) cs)
      go true e = (verdict-worth p q l.model _ (eqb-true _ _ e), a)
      go false e = a

  eligibles-positive : (ls : List Listed) → AllPositive (eligibles (judged p q ls))
  eligibles-positive [] = tt
  eligibles-positive (l ∷ ls) = kept-positive l (eligibles (judged p q ls)) (eligibles-positive ls)

  pub ranking-holds : (ls : List Listed) → AllPositive (ranking (judged p q ls)) × InOrder better (ranking (judged p q ls))
  unfolding ranking
  ranking-holds ls = (sorted-each better _ (eligibles (judged p q ls)) (eligibles-positive ls), ranking_in_order (judged p q ls))

-- ---- one record more

counted_eligible : (v : Verdict) → v.kind ≡ 4 → counted_for v ≡ 0
unfolding counted_for
counted_eligible v e = rw e

kept_append : (j : Judged) (cs ds : List Candidate) → keep j (cs ++ ds) ≡ keep j cs ++ ds
unfolding equal
kept_append j cs ds = go (eqb j.verdict.kind 4)
  where
    go : (t : Bool) → cond t (candidate_of j ∷ cs ++ ds) (cs ++ ds) ≡ cond t (candidate_of j ∷ cs) cs ++ ds
    go true = refl
    go false = refl

pub eligibles-append : (js ks : List Judged) → eligibles (js ++ ks) ≡ eligibles js ++ eligibles ks
eligibles-append [] ks = refl
eligibles-append (j ∷ js) ks = rw (eligibles-append js ks) (kept_append j (eligibles js) (eligibles ks))

-- what is held after one record more, the test of its verdict being t
module _ (counts : RejectionHistogram) (es : List Candidate) (c : Candidate) (v : Verdict) where
  one_more_lem : (t : Bool) → eqb v.kind 4 ≡ t → Worthy c.utility v → AllPositive (sorted_by better es) × InOrder better (sorted_by better es)
      → ◌≡◌ {A = State}
      (record {
        counts = raised_by counts (counted_for v);
        top = top_of (sorted_by better (es ++ cond t (c ∷ []) []));
        eligible = length (es ++ cond t (c ∷ []) []);
      })
      (cond t
      (record { counts = counts; top = ranked_of (top_of (sorted_by better es)) (held_of c); eligible = length es + 1 })
      (record { counts = raised_by counts (counted_for v); top = top_of (sorted_by better es); eligible = length es }))
  one_more_lem true e worth holds =
      let four : v.kind ≡ 4 = eqb-true _ _ e in
      rw (
        counted_eligible v four,
        raised_none counts,
        sorted-snoc better es c,
        top_insert (sorted_by better es) c holds.0 holds.1 (worth four),
        length-append es (c ∷ []),
      )
  one_more_lem false e worth holds = rw (append-nil es)

module _ (p : PolicySnapshot) (q : KernelInput) where
  pub judged-append : (ls ks : List Listed) → judged p q (ls ++ ks) ≡ judged p q ls ++ judged p q ks
  judged-append ls ks = map-append (judge p q) ls ks

  -- ONE RECORD MORE IS ONE STEP
  pub state-snoc : (ls : List Listed) (l : Listed) → state_of (judged p q (ls ++ l ∷ [])) ≡ step_of (state_of (judged p q ls)) (judge p q l)
  unfolding state_of step_of state_entered turned_away ranking equal
  state-snoc ls l =
      let js = judged p q ls in
      let j = judge p q l in
      rw (judged-append ls (l ∷ []), judged_snoc js j, eligibles-append js (j ∷ []))
      (one_more_lem (counts_of js) (eligibles js) (candidate_of j) j.verdict (eqb j.verdict.kind 4) refl (verdict-worth p q l.model _)
      (ranking-holds p q ls))

-- ---- some records more

-- THE COUNTS AND THE ELIGIBLE MODELS GROW BY THE RECORDS, where each step makes them grow by one
pub fold-sum : (step : State → Listed → State)
    → ((s : State) (l : Listed) → total (step s l).counts + (step s l).eligible ≡ suc (total s.counts + s.eligible))
    → (s : State) (ls : List Listed) → total (foldl step s ls).counts + (foldl step s ls).eligible ≡ total s.counts + s.eligible + length ls
fold-sum step grows s [] = omega arith
fold-sum step grows s (l ∷ ls) = fold-sum step grows (step s l) ls ∙ omega (arith, grows s l)

module _ (p : PolicySnapshot) (q : KernelInput) where
  -- FROM WHAT SOME RECORDS COME TO, A RUN GIVES WHAT ALL COME TO
  pub run-state : (ls ks : List Listed) → run_of p q (state_of (judged p q ls)) ks ≡ state_of (judged p q (ls ++ ks))
  unfolding run_of
  run-state ls [] = rw append-nil
  run-state ls (k ∷ ks) = rw (← state-snoc p q ls k) (run-state (ls ++ k ∷ []) ks ∙ rw append_assoc)

  pub run-start : (ls : List Listed) → run_of p q start_of ls ≡ state_of (judged p q ls)
  run-start ls = run-state [] ls
