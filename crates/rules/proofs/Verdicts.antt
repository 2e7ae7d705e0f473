-- What a verdict can be: 1 with a gate from 1 to 8, 2, 3 or 4. Assumes nothing.
use Rattle.rules.proofs.Kit.{ℕ, suc, ◌+◌, ◌<◌, ◌≤◌, eq-zero-or-pos, arith, ◌≡◌, refl, ⊎_elim, Bool, true, false, cond, List, [], ◌∷◌, ltb, pos, length}
use Rattle.rules.proofs.Kit.{le_z}
use Rattle.rules.specs.{Choice.below, Numbers.Verdict, Gates.first_of, Gates.is_off, Gates.is_poor, Gates.is_slow, Gates.is_unable, Gates.is_unknown}
use Rattle.rules.specs.{Gates.is_barred, Gates.is_elsewhere, Gates.is_risky, Gates.gate_of, Utility.utility_of, Verdict.over_budget}
use Rattle.rules.specs.{Verdict.with_terms, Verdict.by_utility, Verdict.verdict_costing, declared.records.KernelModel.KernelModel}
use Rattle.rules.specs.{declared.records.KernelInput.KernelInput, declared.records.PolicySnapshot.PolicySnapshot}
use Rattle.rules.proofs.Choices.{below-yes, below-no}

-- The first of some tests is one of them
first_high : (n : ℕ) (bs : List Bool) → first_of (suc n) bs ≤ n + length bs
first_high n [] = omega arith
first_high n (true ∷ bs) = omega arith
first_high n (false ∷ bs) = omega (arith, first_high (suc n) bs)

-- There is no gate above 8
pub gate_high : (m : KernelModel) (q : KernelInput) → gate_of m q ≤ 8
unfolding gate_of
gate_high m q =
    first_high 0
    (is_off m q ∷ is_poor m q ∷ is_slow m q ∷ is_unable m q ∷ is_unknown m q ∷ is_barred m q ∷ is_elsewhere m q ∷ is_risky m q ∷ [])

-- The four kinds of a verdict, by its numbers
pub data Told (v : Verdict) : Type 0 where
  by-gate : v.kind ≡ 1 → 0 < v.gate → v.gate ≤ 8 → Told v
  by-budget : v.kind ≡ 2 → Told v
  by-utility : v.kind ≡ 3 → Told v
  eligible : v.kind ≡ 4 → Told v

either : (b : Bool) (u v : Verdict) → Told u → Told v → Told (cond b u v)
either true u v t s = t
either false u v t s = s

-- Every verdict that a record is told is of one of them, whatever it costs
module _ (p : PolicySnapshot) (q : KernelInput) (m : KernelModel) (cost : ℕ) where
  told-terms : (b : Bool) → Told (with_terms p q m cost (cond b 3 4))
  told-terms true = by-utility refl
  told-terms false = eligible refl

  told-priced : Told (by_utility p q m cost)
  unfolding by_utility
  told-priced = told-terms (le_z (utility_of p m q cost) (pos 0))

  told-cost : Told (below q.budget_limit_microunits cost (over_budget cost q.budget_limit_microunits) (by_utility p q m cost))
  unfolding below
  told-cost = either (ltb q.budget_limit_microunits cost) _ _ (by-budget refl) told-priced

  pub verdict-told : Told (verdict_costing p q m cost)
  unfolding verdict_costing
  verdict-told =
      ⊎_elim
      (λ (z : gate_of m q ≡ 0). let h : gate_of m q ≤ 0 = omega arith in rw (below-no 0 (gate_of m q) _ _ h) told-cost)
      (λ (h : 0 < gate_of m q). rw (below-yes 0 (gate_of m q) _ _ h) (by-gate refl h (gate_high m q)))
      (eq-zero-or-pos (gate_of m q))
