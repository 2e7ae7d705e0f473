-- The tests for an empty bank and, over its records from a place on, for one that is switched on. Assumes nothing.
use Rattle.rules.proofs.Kit.{eq-eqb, ne_eqb, ℕ, ◌+◌, ◌/◌, ◌<◌, ◌≡◌, sym, ◌∙◌, List, [], ◌∷◌, length}
use Rattle.rules.specs.{Records.listed_of, Records.model_at, Refused.fault, Validate.empty_faults, Validate.off_faults, declared.records.KernelModel.KernelModel}
use Rattle.rules.proofs.Choices.{equal-yes, equal-no}
use Rattle.bank.proofs.Listing.{length-listed}
use Rattle.catalogue_records.proofs.Walks.{rest, tail, end}

module _ (bank : List ℕ) where
  -- ---- 11

  pub empty-yes : length bank / 47 ≡ 0 → empty_faults (listed_of bank) ≡ fault 11 ∷ []
  unfolding empty_faults
  empty-yes e = rw (eq-eqb _ _ (length-listed bank ∙ e))

  pub empty-no : (length bank / 47 ≡ 0 → ⊥) → empty_faults (listed_of bank) ≡ []
  unfolding empty_faults
  empty-no e = rw (ne_eqb _ _ (λ k. e (sym (length-listed bank) ∙ k)))

  -- ---- 15

  pub on-here : (i : ℕ) (m : KernelModel) → i < length bank / 47 → m ≡ model_at bank i → (m.enabled ≡ 0 → ⊥) → off_faults (rest bank i) ≡ []
  unfolding off_faults
  on-here i m h e z = rw (tail bank i h, ← e, equal-no _ _ _ _ z)

  pub off-here : (i : ℕ) (m : KernelModel) → i < length bank / 47 → m ≡ model_at bank i → m.enabled ≡ 0
      → off_faults (rest bank i) ≡ off_faults (rest bank (i + 1))
  unfolding off_faults
  off-here i m h e z = rw (tail bank i h, ← e, equal-yes _ _ _ _ z)

  pub off-all : (i : ℕ) → i ≡ length bank / 47 → off_faults (rest bank i) ≡ fault 15 ∷ []
  unfolding off_faults
  off-all i e = rw (end bank i e)
