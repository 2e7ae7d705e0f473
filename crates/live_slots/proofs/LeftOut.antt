-- SWITCHED-OFF RECORDS LEFT OUT: whoever has id 0 is switched off, so it adds one to that count and changes nothing else. Assumes nothing.
use Rattle.rules.proofs.Kit.{ℕ, suc, ◌+◌, ◌≡◌, refl, sym, ap, ◌∙◌, Bool, true, false, cond, List, [], ◌∷◌, arith, ⊎_elim, eq-eqb, eqb, length}
use Rattle.rules.specs.{Choice.equal, Order.sorted_by, Records.Listed, Gates.gate_of, Gates.detail_of, Price.Cost, Price.cost_under, Count.counts_of}
use Rattle.rules.specs.{Verdict.judge_by, Verdict.judged_by, Verdict.judged, Verdict.rejected, Verdict.verdict_costing}
use Rattle.rules.specs.{Rank.keep}
use Rattle.rules.specs.{Rank.eligibles, Rank.better, Rank.ranking, Count.gate_reason, Count.counted_for, Count.raised_by, Count.counts_from, Slots.live_of}
use Rattle.rules.specs.{declared.decision.RejectionHistogram.RejectionHistogram, declared.records.KernelModel.KernelModel}
use Rattle.rules.specs.{declared.records.KernelInput.KernelInput, declared.records.PolicySnapshot.PolicySnapshot}
use Rattle.rules.proofs.{Choices.below-yes, Choices.equal-yes, Choices.equal-no, Orders.same_or_not, Slots.live-none, Slots.live-left, Slots.live-kept}
use Rattle.rules.proofs.Slots.{FreeOff}

-- An id as it is read of a listed record
abbrev id_in : Listed → ℕ
id_in l = l.model.model_id

-- So many more that are switched off
abbrev pub more_off : ℕ → RejectionHistogram → RejectionHistogram
more_off k c = record {
  disabled = c.disabled + k;
  quality = c.quality;
  risk_ceiling = c.risk_ceiling;
  latency = c.latency;
  capability = c.capability;
  provider = c.provider;
  region = c.region;
  budget = c.budget;
  utility = c.utility;
}

-- How many are left out
unfoldable pub left_out : List Listed → ℕ
left_out [] = 0
left_out (l ∷ ls) = equal l.model.model_id 0 (suc (left_out ls)) (left_out ls)

out_none : left_out [] ≡ 0
unfolding left_out
out_none = refl

module _ (l : Listed) (ls : List Listed) where
  out-free : l.model.model_id ≡ 0 → left_out (l ∷ ls) ≡ suc (left_out ls)
  unfolding left_out
  out-free e = equal-yes _ _ _ _ e

  out-live : (l.model.model_id ≡ 0 → ⊥) → left_out (l ∷ ls) ≡ left_out ls
  unfolding left_out
  out-live n = equal-no _ _ _ _ n

-- LIVE AND LEFT OUT TOGETHER are all
pub out_many : (ls : List Listed) → length (live_of ls) + left_out ls ≡ length ls
out_many [] = rw (live-none id_in, out_none)
out_many (l ∷ ls) =
    ⊎_elim
    (λ (e : l.model.model_id ≡ 0). rw (live-left id_in l ls e, out-free l ls e) (omega (arith, out_many ls)))
    (λ (n : l.model.model_id ≡ 0 → ⊥). rw (live-kept id_in l ls n, out-live l ls n) (omega (arith, out_many ls)))
    (same_or_not l.model.model_id 0)

more : (b : Bool) (n k : ℕ) → cond b (n + k + 1) (n + k) ≡ cond b (n + 1) n + k
more true n k = omega arith
more false n k = refl

raised_more : (k : ℕ) (c : RejectionHistogram) (r : ℕ) → raised_by (more_off k c) r ≡ more_off k (raised_by c r)
unfolding raised_by equal
raised_more k c r = λ i. record {
  disabled = more (eqb 102 r) c.disabled k i;
  quality = (raised_by c r).quality;
  risk_ceiling = (raised_by c r).risk_ceiling;
  latency = (raised_by c r).latency;
  capability = (raised_by c r).capability;
  provider = (raised_by c r).provider;
  region = (raised_by c r).region;
  budget = (raised_by c r).budget;
  utility = (raised_by c r).utility;
}

raised_off : (k : ℕ) (c : RejectionHistogram) → raised_by (more_off k c) 102 ≡ more_off (suc k) c
unfolding raised_by equal
raised_off k c = λ i. record {
  disabled = one i;
  quality = c.quality;
  risk_ceiling = c.risk_ceiling;
  latency = c.latency;
  capability = c.capability;
  provider = c.provider;
  region = c.region;
  budget = c.budget;
  utility = c.utility;
}
  where
    one : c.disabled + k + 1 ≡ c.disabled + suc k
    one = omega arith

module _ (costs : Cost) (p : PolicySnapshot) (q : KernelInput) where
  -- a model that is off fails gate 1, whatever it costs
  off-verdict : (m : KernelModel) → m.enabled ≡ 0 → verdict_costing p q m (costs m q) ≡ rejected 1 (detail_of m q 1)
  unfolding verdict_costing gate_of
  off-verdict m e = rw (eq-eqb m.enabled 0 e, below-yes 0 1 _ _ (omega arith))

  -- THE ELIGIBLE MODELS ARE THE SAME, by any rule of cost
  pub eligibles-left : (ls : List Listed) → FreeOff ls → eligibles (judged_by costs p q ls) ≡ eligibles (judged_by costs p q (live_of ls))
  eligibles-left [] h = rw (live-none id_in)
  eligibles-left (l ∷ ls) h =
      ⊎_elim
      (λ (e : l.model.model_id ≡ 0). skipped (h.0 e) ∙ eligibles-left ls h.1
      ∙ ap (λ ks. eligibles (judged_by costs p q ks)) (sym (live-left id_in l ls e)))
      (λ (n : l.model.model_id ≡ 0 → ⊥). ap (keep (judge_by costs p q l)) (eligibles-left ls h.1)
      ∙ ap (λ ks. eligibles (judged_by costs p q ks)) (sym (live-kept id_in l ls n)))
      (same_or_not l.model.model_id 0)
    where
      skipped : l.model.enabled ≡ 0 → eligibles (judged_by costs p q (l ∷ ls)) ≡ eligibles (judged_by costs p q ls)
      skipped e =
          let v = (judge_by costs p q l).verdict in
          let one : v.kind ≡ 1 = ap (λ w. w.kind) (off-verdict l.model e) in
          equal-no v.kind 4 _ _ (λ k. omega arith)

  -- AND SO IS THE RANKING
  pub ranking-left : (ls : List Listed) → FreeOff ls → ranking (judged_by costs p q ls) ≡ ranking (judged_by costs p q (live_of ls))
  unfolding ranking
  ranking-left ls h = ap (sorted_by better) (eligibles-left ls h)

module _ (p : PolicySnapshot) (q : KernelInput) where
  off-counted : (l : Listed) → l.model.enabled ≡ 0 → counted_for (judge_by (cost_under p) p q l).verdict ≡ 102
  unfolding counted_for gate_reason
  off-counted l e = rw (off-verdict (cost_under p) p q l.model e)

  counts-cons : (l : Listed) (ls : List Listed)
      → counts_of (judged p q (l ∷ ls)) ≡ raised_by (counts_of (judged p q ls)) (counted_for (judge_by (cost_under p) p q l).verdict)
  unfolding counts_of counts_from
  counts-cons l ls = refl

  counts-none : counts_of (judged p q []) ≡ more_off 0 (counts_of (judged p q []))
  unfolding counts_of counts_from
  counts-none = refl

  -- THE COUNTS differ in `disabled` alone, by as many as are left out
  pub counts-left : (ls : List Listed) → FreeOff ls → counts_of (judged p q ls) ≡ more_off (left_out ls) (counts_of (judged p q (live_of ls)))
  counts-left [] h = rw (live-none id_in, out_none) counts-none
  counts-left (l ∷ ls) h =
      ⊎_elim
      (λ (e : l.model.model_id ≡ 0). counts-cons l ls
      ∙ ap (raised_by (counts_of (judged p q ls))) (off-counted l (h.0 e))
      ∙ ap (λ c. raised_by c 102) (counts-left ls h.1)
      ∙ raised_off (left_out ls) (counts_of (judged p q (live_of ls)))
      ∙ (λ i. more_off (sym (out-free l ls e) i) (counts_of (judged p q (sym (live-left id_in l ls e) i)))))
      (λ (n : l.model.model_id ≡ 0 → ⊥). counts-cons l ls
      ∙ ap (λ c. raised_by c (counted_for (judge_by (cost_under p) p q l).verdict)) (counts-left ls h.1)
      ∙ raised_more (left_out ls) (counts_of (judged p q (live_of ls))) (counted_for (judge_by (cost_under p) p q l).verdict)
      ∙ ap (more_off (left_out ls)) (sym (counts-cons l (live_of ls)))
      ∙ (λ i. more_off (sym (out-live l ls n) i) (counts_of (judged p q (sym (live-kept id_in l ls n) i)))))
      (same_or_not l.model.model_id 0)
