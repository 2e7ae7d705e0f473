-- When a model is eligible: no gate stops it, it is within the budget, and its utility is positive. A model that is nowhere less favourable
-- stays so, if it costs no more. Assumes nothing.
use Rattle.rules.proofs.Kit.{ℕ, suc, ◌≤◌, ◌≡◌, refl, Bool, true, false, cond, ◌&&◌, List, [], ◌∷◌, arith, le-ltb, ltb-false, ltb, pos, le_z}
use Rattle.rules.specs.{Choice.below, Order.Each, Gates.first_of, Gates.is_off, Gates.is_poor, Gates.is_slow, Gates.is_unable, Gates.is_unknown, Gates.is_barred}
use Rattle.rules.specs.{Gates.is_elsewhere, Gates.is_risky, Gates.gate_of, Gates.detail_of, Utility.utility_of, Verdict.rejected, Verdict.over_budget}
use Rattle.rules.specs.{Verdict.with_terms, Verdict.by_utility, Verdict.verdict_costing, declared.records.KernelModel.KernelModel}
use Rattle.rules.specs.{declared.records.KernelInput.KernelInput, declared.records.PolicySnapshot.PolicySnapshot}
use Rattle.demands.specs.Standing.{Favours}
use Rattle.demands.proofs.{Integers.positive_up, Terms.utility-rises}

-- ---- the three conditions, at a cost

pub record Passes (p : PolicySnapshot) (q : KernelInput) (m : KernelModel) (cost : ℕ) : Type 0 where
  pub gate : gate_of m q ≡ 0
  pub budget : cost ≤ q.budget_limit_microunits
  pub utility : le_z (utility_of p m q cost) (pos 0) ≡ false

module _ (p : PolicySnapshot) (q : KernelInput) (m : KernelModel) (cost : ℕ) where
  pub passes : (verdict_costing p q m cost).kind ≡ 4 → Passes p q m cost
  unfolding verdict_costing by_utility below
  passes e = go (ltb 0 (gate_of m q)) (ltb q.budget_limit_microunits cost) (le_z (utility_of p m q cost) (pos 0)) refl refl refl e
    where
      go : (s t u : Bool) → ltb 0 (gate_of m q) ≡ s → ltb q.budget_limit_microunits cost ≡ t → le_z (utility_of p m q cost) (pos 0) ≡ u
          → (cond s (rejected (gate_of m q) (detail_of m q (gate_of m q)))
          (cond t (over_budget cost q.budget_limit_microunits) (with_terms p q m cost (cond u 3 4)))).kind ≡ 4 → Passes p q m cost
      go true t u a b c e = absurd (omega arith)
      go false true u a b c e = absurd (omega arith)
      go false false true a b c e = absurd (omega arith)
      go false false false a b c e =
          record {
            gate = omega (arith, ltb-false 0 (gate_of m q) a);
            budget = ltb-false q.budget_limit_microunits cost b;
            utility = c;
          }

  -- and then the verdict is 4, with the model's own terms
  pub told-terms : Passes p q m cost → verdict_costing p q m cost ≡ with_terms p q m cost 4
  unfolding verdict_costing by_utility below
  told-terms h = rw (h.gate, le-ltb q.budget_limit_microunits cost h.budget, h.utility)

-- ---- the gates

first_none : (n : ℕ) (bs : List Bool) → first_of (suc n) bs ≡ 0 → Each (λ b. b ≡ false) bs
first_none n [] e = tt
first_none n (true ∷ bs) e = absurd (omega arith)
first_none n (false ∷ bs) e = (refl, first_none (suc n) bs e)

none_first : (n : ℕ) (bs : List Bool) → Each (λ b. b ≡ false) bs → first_of n bs ≡ 0
none_first n [] h = refl
none_first n (b ∷ bs) h = rw h.0 (none_first (suc n) bs h.1)

-- a test that fails wherever another does, behind the same test
and-not : (a b c : Bool) → (b ≡ false → c ≡ false) → (a && b) ≡ false → (a && c) ≡ false
and-not true b c f e = f e
and-not false b c f e = refl

-- a number that is not below another
not-below : (a b c d : ℕ) → a ≤ c → d ≤ b → ltb a b ≡ false → ltb c d ≡ false
not-below a b c d h k e = le-ltb c d (omega (arith, ltb-false a b e))

-- the eight tests
abbrev tests : KernelModel → KernelInput → List Bool
tests m q =
    is_off m q ∷ is_poor m q ∷ is_slow m q ∷ is_unable m q ∷ is_unknown m q ∷ is_barred m q ∷ is_elsewhere m q ∷ is_risky m q ∷ []

module _ (p : PolicySnapshot) (q : KernelInput) (y x : KernelModel) (f : Favours y x) where
  -- No gate stops a model that is nowhere less favourable than one that none stops
  gates-pass : gate_of x q ≡ 0 → gate_of y q ≡ 0
  unfolding gate_of
  gates-pass e =
      let (off, (poor, (slow, (unable, (unknown, (barred, (elsewhere, (risky, _)))))))) = first_none 0 (tests x q) e in
      let quality = not-below x.quality_bps q.minimum_quality_bps y.quality_bps q.minimum_quality_bps f.quality (omega arith) poor in
      let ceiling = not-below x.risk_ceiling_bps q.risk_bps y.risk_ceiling_bps q.risk_bps f.ceiling (omega arith) risky in
      let longest = q.max_p95_latency_ms in
      let latency = and-not (ltb 0 longest) _ _ (not-below longest x.p95_latency_ms longest y.p95_latency_ms (omega arith) f.latency) slow in
      none_first 1 (tests y q) (
        rw f.enabled off,
        (quality, (latency, (rw f.capabilities unable, (rw f.provider unknown, (rw f.provider barred, (rw f.regions elsewhere, (ceiling, tt))))))),
      )

  -- So, where it costs no more, it is eligible where the other is
  pub stays-eligible : (less more : ℕ) → less ≤ more → Passes p q x more → Passes p q y less
  stays-eligible less more c h =
      record {
        gate = gates-pass h.gate;
        budget = omega (arith, h.budget);
        utility = positive_up (utility_of p x q more) (utility_of p y q less) (utility-rises p q y x f less more c) h.utility;
      }
