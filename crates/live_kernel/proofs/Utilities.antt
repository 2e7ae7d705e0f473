-- The utility of one live model: id 0 has none, and any other that of the first of all records with it. Assumes nothing.
use Rattle.rules.proofs.Kit.{ℕ, ◌≤◌, ◌<◌, ◌≡◌, ◌∙◌, List, ⊎_elim}
use Rattle.rules.specs.{Records.listed_of, Refused.fault, Refused.refused, Decide.stopped_by, Decide.utility_in, Slots.live_in}
use Rattle.rules.specs.{declared.records.KernelInput.KernelInput, declared.records.PolicySnapshot.PolicySnapshot}
use Rattle.rules.proofs.{Choices.below-yes, Choices.below-no, Orders.lt_or_le, Slots.first_live, Slots.none_zero}

module _ (p : PolicySnapshot) (q : KernelInput) (bank : List ℕ) where
  pub utility-none : (id : ℕ) → id ≡ 0 → utility_in p q id (live_in bank) ≡ refused (fault 7)
  unfolding utility_in
  utility-none id e =
      ⊎_elim
      (λ (h : 0 < stopped_by p q). below-yes 0 (stopped_by p q) _ _ h)
      (λ (h : stopped_by p q ≤ 0). below-no 0 (stopped_by p q) _ _ h ∙ rw (e, none_zero (listed_of bank)))
      (lt_or_le 0 (stopped_by p q))

  pub utility-live : (id : ℕ) → (id ≡ 0 → ⊥) → utility_in p q id (listed_of bank) ≡ utility_in p q id (live_in bank)
  unfolding utility_in
  utility-live id n = rw (first_live id n (listed_of bank))
