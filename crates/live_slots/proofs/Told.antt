-- What a number tells that a call answers where nothing refuses it, as `read_slots` does. Assumes nothing.
use Rattle.rules.proofs.Kit.{ℕ, ◌≡◌, refl, [], ◌∷◌, arith}
use Rattle.std.specs.Prelude.{Ok, Err}
use Rattle.rules.specs.{Refused.Faults, Refused.first_fault, Refused.told_outcome, Refused.unless, Refused.refused, Refused.answered, Numbers.told_number}
use Rattle.rules.specs.declared.refusal.Refusal.{Refusal}

-- A REFUSAL is the first fault
pub number_refused : (k : Refusal) (fs : Faults) (n : ℕ) → told_number (Err k) ≡ unless fs refused (answered n) → told_outcome (Err k) ≡ first_fault fs
unfolding told_outcome first_fault
number_refused k [] n e = cc
number_refused k (f ∷ fs) n e = cc

-- A NUMBER is the one answered, and nothing refuses
pub number_passed : (m : ℕ) (fs : Faults) (n : ℕ) → told_number (Ok m) ≡ unless fs refused (answered n) → (fs ≡ []) × (m ≡ n)
number_passed m [] n e = (refl, cc)
number_passed m (f ∷ fs) n e = absurd (let z : ◌≡◌ {A = ℕ} 0 1 = cc in omega arith)
