-- A policy's bytes, once nothing refuses them. Assumes nothing.
use Rattle.rules.proofs.Kit.{ℕ, ◌≤◌, ◌<◌, ◌≡◌, refl, Bool, true, false, not, ◌||◌, ◌⊎◌, inl, inr, ⊎_elim, List, [], arith, eqb-true, not-false, eqb, length}
use Rattle.rules.specs.{Limits.policy_bytes, Limits.rounded_policy_bytes, Limits.longest_policy_bytes, Refused.fault, Stored.policy_size_faults}
use Rattle.rules.specs.{Stored.rounding_faults, Stored.policy_byte_faults}
use Rattle.rules.proofs.Faults.{none_first, test_none}

either : (a b : Bool) → (a || b) ≡ true → (a ≡ true) ⊎ (b ≡ true)
either true b h = inl refl
either false b h = inr h

-- WHERE NOTHING REFUSES THEM, their length isn't refused either
pub policy_sized : (s : List ℕ) → policy_byte_faults s ≡ [] → policy_size_faults s ≡ []
policy_sized s none = none_first (policy_size_faults s) (rounding_faults s) none

module _ (s : List ℕ) (none : policy_size_faults s ≡ []) where
  -- THEN THEY ARE 30, 31 OR 35
  pub policy-lengths : ((length s ≡ policy_bytes) ⊎ (length s ≡ rounded_policy_bytes)) ⊎ (length s ≡ longest_policy_bytes)
  unfolding policy_size_faults
  policy-lengths =
      let n = length s in
      let short = eqb n policy_bytes || eqb n rounded_policy_bytes in
      let fits = short || eqb n longest_policy_bytes in
      ⊎_elim
      (λ h. inl (⊎_elim (λ e. inl (eqb-true n policy_bytes e)) (λ e. inr (eqb-true n rounded_policy_bytes e)) (either _ _ h)))
      (λ e. inr (eqb-true n longest_policy_bytes e))
      (either short (eqb n longest_policy_bytes) (not-false fits (test_none (not fits) (fault 22) none)))

  -- 30 at least, those of its numbers
  pub policy-long : policy_bytes ≤ length s
  policy-long = ⊎_elim (⊎_elim (λ e. omega (arith, e)) (λ e. omega (arith, e))) (λ e. omega (arith, e)) policy-lengths

  -- and 31 at most, where there is no allowance among them
  pub policy-short : length s < longest_policy_bytes → length s ≤ rounded_policy_bytes
  policy-short h = ⊎_elim (⊎_elim (λ e. omega (arith, e)) (λ e. omega (arith, e))) (λ e. absurd (omega (arith, e, h))) policy-lengths
