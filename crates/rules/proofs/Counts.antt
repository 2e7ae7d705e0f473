-- The nine counts, record by record, and their sum. Assumes nothing.
use Rattle.rules.proofs.Kit.{ℕ, zero, suc, ◌+◌, ◌-◌, ◌<◌, ◌≤◌, arith, ◌≡◌, refl, ap, ◌∙◌, Bool, true, false, cond, List, [], ◌∷◌, ◌++◌, eqb, length}
use Rattle.rules.specs.{Choice.equal, Numbers.Verdict, Records.Listed, Verdict.Judged, Verdict.judge, Verdict.judged, Verdict.verdict_of, Rank.Candidate}
use Rattle.rules.specs.{Rank.candidate_of, Rank.eligibles, Count.gate_reason, Count.counted_for, Count.one_more, Count.raised_by, Count.total}
use Rattle.rules.specs.{Count.counts_from, Count.reasons_of, Count.counts_of, declared.decision.RejectionHistogram.RejectionHistogram}
use Rattle.rules.specs.{declared.records.KernelInput.KernelInput, declared.records.PolicySnapshot.PolicySnapshot}
use Rattle.rules.proofs.{Reasons.reason_counted, Verdicts.Told, Verdicts.by-gate, Verdicts.by-budget, Verdicts.by-utility, Verdicts.eligible}
use Rattle.rules.proofs.{Verdicts.verdict-told}

-- ---- one record more

-- two counts in either order
pub swap : (a b : Bool) (n : ℕ) → cond a (cond b (n + 1) n + 1) (cond b (n + 1) n) ≡ cond b (cond a (n + 1) n + 1) (cond a (n + 1) n)
swap true true n = refl
swap true false n = refl
swap false true n = refl
swap false false n = refl

-- which of two records is counted first makes no difference, at any count
either_first : (k r s n : ℕ) → one_more k r (one_more k s n) ≡ one_more k s (one_more k r n)
unfolding equal
either_first k r s n = swap (eqb k r) (eqb k s) n

raised_either : (c : RejectionHistogram) (r s : ℕ) → raised_by (raised_by c r) s ≡ raised_by (raised_by c s) r
unfolding raised_by
raised_either c r s = λ i.
    record {
      disabled = either_first 102 s r c.disabled i;
      quality = either_first 103 s r c.quality i;
      risk_ceiling = either_first 110 s r c.risk_ceiling i;
      latency = either_first 104 s r c.latency i;
      capability = either_first 105 s r c.capability i;
      provider = either_first 106 s r c.provider i;
      region = either_first 107 s r c.region i;
      budget = either_first 108 s r c.budget i;
      utility = either_first 109 s r c.utility i;
    }

-- THE LAST RECORD'S REASON RAISES ITS COUNT, and no other
pub counts_snoc : (rs : List ℕ) (r : ℕ) → counts_from (rs ++ r ∷ []) ≡ raised_by (counts_from rs) r
unfolding counts_from
counts_snoc [] r = refl
counts_snoc (x ∷ rs) r = rw (counts_snoc rs r) (raised_either (counts_from rs) r x)

reasons_snoc : (js : List Judged) (j : Judged) → reasons_of (js ++ j ∷ []) ≡ reasons_of js ++ counted_for j.verdict ∷ []
reasons_snoc [] j = refl
reasons_snoc (x ∷ js) j = ap (λ rs. counted_for x.verdict ∷ rs) (reasons_snoc js j)

pub judged_snoc : (js : List Judged) (j : Judged) → counts_of (js ++ j ∷ []) ≡ raised_by (counts_of js) (counted_for j.verdict)
unfolding counts_of
judged_snoc js j = rw (reasons_snoc js j) (counts_snoc (reasons_of js) (counted_for j.verdict))

-- ---- the sum

-- No reason raises nothing
pub raised_none : (c : RejectionHistogram) → raised_by c 0 ≡ c
unfolding raised_by equal
raised_none c = refl

pub total_none : (c : RejectionHistogram) → total (raised_by c 0) ≡ total c
total_none c = rw (raised_none c)

total_at : (c : RejectionHistogram) (k : ℕ) → k < 9 → total (raised_by c (102 + k)) ≡ total c + 1
unfolding raised_by equal
total_at c zero h = omega arith
total_at c (suc zero) h = omega arith
total_at c (suc (suc zero)) h = omega arith
total_at c (suc (suc (suc zero))) h = omega arith
total_at c (suc (suc (suc (suc zero)))) h = omega arith
total_at c (suc (suc (suc (suc (suc zero))))) h = omega arith
total_at c (suc (suc (suc (suc (suc (suc zero)))))) h = omega arith
total_at c (suc (suc (suc (suc (suc (suc (suc zero))))))) h = omega arith
total_at c (suc (suc (suc (suc (suc (suc (suc (suc zero)))))))) h = omega arith
total_at c (suc (suc (suc (suc (suc (suc (suc (suc (suc k))))))))) h = absurd (omega arith)

-- EACH OF THE NINE REASONS, 102 TO 110, RAISES THE SUM BY ONE
pub total_raised : (c : RejectionHistogram) (r : ℕ) → 102 ≤ r → r ≤ 110 → total (raised_by c r) ≡ total c + 1
total_raised c r lo hi = let e : r ≡ 102 + (r - 102) = omega arith in rw e (total_at c (r - 102) (omega arith))

-- One record more is one more in the counts, or one more that is eligible
one_more_lem : (c : RejectionHistogram) (x : Candidate) (xs : List Candidate) (v : Verdict) → Told v
    → total (raised_by c (counted_for v)) + length (equal v.kind 4 (x ∷ xs) xs) ≡ suc (total c + length xs)
unfolding counted_for equal
one_more_lem c x xs v (by-gate e lo hi) = let b = reason_counted v.gate lo hi in rw e (omega (arith, total_raised c (gate_reason v.gate) b.0 b.1))
one_more_lem c x xs v (by-budget e) = rw e (omega (arith, total_at c 6 (omega arith)))
one_more_lem c x xs v (by-utility e) = rw e (omega (arith, total_at c 7 (omega arith)))
one_more_lem c x xs v (eligible e) = rw e (omega (arith, total_none c))

-- THE NINE COUNTS AND THE ELIGIBLE MODELS TOGETHER ARE THE RECORDS, for every list of records
pub counts_sum : (p : PolicySnapshot) (q : KernelInput) (ls : List Listed)
    → total (counts_of (judged p q ls)) + length (eligibles (judged p q ls)) ≡ length (judged p q ls)
unfolding counts_of counts_from raised_by
counts_sum p q [] = refl
counts_sum p q (l ∷ ls) =
    let js = judged p q ls in
    one_more_lem (counts_from (reasons_of js)) (candidate_of (judge p q l)) (eligibles js) (verdict_of p q l.model) (verdict-told p q l.model _)
    ∙ ap suc (counts_sum p q ls)
