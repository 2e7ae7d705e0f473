-- Where a record stands in a list makes no difference to the ranking, the counts and the state of a scan, where no later record has its
-- place. Assumes nothing.
use Rattle.kernel_ranking.proofs.Steps.{step_of}
use Rattle.rules.proofs.Kit.{ℕ, ◌≡◌, sym, ap, ◌∙◌, Bool, true, false, cond, List, [], ◌∷◌, ◌++◌, append-nil, eqb, length}
use Rattle.rules.specs.{Choice.equal, Records.Listed, Verdict.Judged, Verdict.judge, Verdict.judged, Order.sorted_by, Order.Each, Rank.Candidate}
use Rattle.rules.specs.{Rank.candidate_of, Rank.better, Rank.eligibles, Rank.ranking, Count.counted_for, Count.raised_by, Count.counts_of, Count.counts_from}
use Rattle.rules.specs.{declared.records.KernelInput.KernelInput, declared.records.PolicySnapshot.PolicySnapshot}
use Rattle.rules.proofs.{Counts.judged_snoc, Sorted.sorted-length, Sorted.sorted-each, Better.candidate_moved, Better.judged_each, Better.eligibles_each}
use Rattle.kernel_ranking.specs.State.{top_of, state_of}
use Rattle.kernel_ranking.proofs.States.{eligibles-append, judged-append, state-snoc}

-- Another place than this one's
abbrev pub Elsewhere : ℕ → Listed → Type 0
Elsewhere place l = place ≡ l.place → ⊥

-- what holds for the places of a list holds for those of its ranking
pub ranking_each : (p : PolicySnapshot) (q : KernelInput) (P : ℕ → Type 0) (ls : List Listed) → Each (λ l. P l.place) ls
    → Each (λ c. P c.place) (ranking (judged p q ls))
unfolding ranking
ranking_each p q P ls h = sorted-each better _ (eligibles (judged p q ls)) (eligibles_each P (judged p q ls) (judged_each p q P ls h))

-- ---- one record, wherever it stands

counts_moved : (js : List Judged) (j : Judged) (ks : List Judged) → counts_of (js ++ j ∷ ks) ≡ counts_of ((js ++ ks) ++ j ∷ [])
unfolding counts_of counts_from
counts_moved [] j ks = sym (judged_snoc ks j)
counts_moved (i ∷ js) j ks = ap (λ c. raised_by c (counted_for i.verdict)) (counts_moved js j ks)

-- the eligible ones in order, the test of the one's verdict being t
order_kept : (xs : List Candidate) (c : Candidate) (ys : List Candidate) → Each (λ b. c.place ≡ b.place → ⊥) ys
    → (t : Bool) → sorted_by better (xs ++ cond t (c ∷ ys) ys) ≡ sorted_by better ((xs ++ ys) ++ cond t (c ∷ []) [])
order_kept xs c ys h true = candidate_moved xs c ys h
order_kept xs c ys h false = rw (append-nil (xs ++ ys))

module _ (js : List Judged) (j : Judged) (ks : List Judged) (h : Each (λ k. j.listed.place ≡ k.listed.place → ⊥) ks) where
  -- THE RANKING, wherever a record stands
  pub ranking-moved : ranking (js ++ j ∷ ks) ≡ ranking ((js ++ ks) ++ j ∷ [])
  unfolding ranking equal
  ranking-moved =
      rw (eligibles-append js (j ∷ ks), eligibles-append (js ++ ks) (j ∷ []), eligibles-append js ks)
      (order_kept (eligibles js) (candidate_of j) (eligibles ks) (eligibles_each (λ n. j.listed.place ≡ n → ⊥) ks h) (eqb j.verdict.kind 4))

  many-moved : length (eligibles (js ++ j ∷ ks)) ≡ length (eligibles ((js ++ ks) ++ j ∷ []))
  unfolding ranking
  many-moved =
      sym (sorted-length better (eligibles (js ++ j ∷ ks))) ∙ ap length ranking-moved ∙ sorted-length better (eligibles ((js ++ ks) ++ j ∷ []))

  -- AND WHAT A SCAN HOLDS
  pub held_moved : state_of (js ++ j ∷ ks) ≡ state_of ((js ++ ks) ++ j ∷ [])
  unfolding state_of
  held_moved = λ i. record { counts = counts_moved js j ks i; top = top_of (ranking-moved i); eligible = many-moved i }

module _ (p : PolicySnapshot) (q : KernelInput) where
  -- A RECORD APART FROM THE OTHERS: what all come to is what the others come to, and one step
  pub state-apart : (ls : List Listed) (l : Listed) (ks : List Listed) → Each (Elsewhere l.place) ks
      → state_of (judged p q (ls ++ l ∷ ks)) ≡ step_of (state_of (judged p q (ls ++ ks))) (judge p q l)
  state-apart ls l ks h =
      ap state_of (judged-append p q ls (l ∷ ks))
      ∙ held_moved (judged p q ls) (judge p q l) (judged p q ks) (judged_each p q (λ n. l.place ≡ n → ⊥) ks h)
      ∙ ap state_of (sym (judged-append p q (ls ++ ks) (l ∷ []) ∙ ap (λ js. js ++ judge p q l ∷ []) (judged-append p q ls ks)))
      ∙ state-snoc p q (ls ++ ks) l
