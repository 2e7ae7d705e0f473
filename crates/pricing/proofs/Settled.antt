-- A value by its sign, and a pricing that is settled. Assumes nothing.
use Rattle.rules.proofs.Kit.{◌≡◌, refl, Bool, true, false, ℕ, ◌^◌, ◌<◌, arith, ltb-true, T, ℤ, pos, negsuc, nat_abs, lt_z, non_neg}
use Rattle.rules.specs.{Utility.or_zero, Utility.risk_term_of, declared.records.KernelInput.KernelInput, declared.records.PolicySnapshot.PolicySnapshot}
use Rattle.rules.proofs.Limbs.{wide_val}
use Rattle.pricing.specs.Pricing.{pricing_of, Settled}
use Rattle.pricing.proofs.Values.{share_lt}

-- a value by its sign
pub gain_neg : (z : ℤ) → lt_z z (pos 0) ≡ true → 0 ≡ or_zero z
gain_neg (pos n) h = omega (arith, ltb-true n 0 h)
gain_neg (negsuc n) h = refl

never : (n : ℕ) → lt_z (negsuc n) (pos 0) ≡ false → ⊥
never n h = let z : ◌≡◌ {A = Bool} true false = h in let y : ◌≡◌ {A = ℕ} 0 1 = cc in omega arith

pub nonneg : (z : ℤ) → lt_z z (pos 0) ≡ false → T (non_neg z)
nonneg (pos n) h = tt
nonneg (negsuc n) h = absurd (never n h)

pub gain_pos : (z : ℤ) → lt_z z (pos 0) ≡ false → nat_abs z ≡ or_zero z
gain_pos (pos n) h = refl
gain_pos (negsuc n) h = absurd (never n h)

-- a pricing of a policy and a request whose numbers are those of their types is settled
pub settled : (p : PolicySnapshot) (q : KernelInput) → or_zero q.business_value_microunits < 2 ^ 64 → q.risk_bps < 2 ^ 16
    → p.risk_penalty_multiplier_bps < 2 ^ 16 → Settled (pricing_of p q)
unfolding pricing_of risk_term_of
settled p q v r m = record { prefix = refl; room = rw (wide_val (risk_term_of p q)) (share_lt v r m) }
