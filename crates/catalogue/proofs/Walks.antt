-- The tests that go over a bank's records, from a place on: what one record hands back, or leaves to those after it. Assumes nothing.
use Rattle.rules.proofs.Kit.{lt-ltb, le-ltb, eq-eqb, ne_eqb, ℕ, ◌+◌, ◌/◌, ◌<◌, ◌≤◌, ◌≡◌, sym, ◌∙◌, List, [], ◌∷◌, length}
use Rattle.rules.specs.{Records.model_at, Records.record_part, Refused.fault, Refused.model_fault, Trust.reserved_faults, Trust.flag_faults, Trust.id_of}
use Rattle.rules.specs.{declared.records.KernelModel.KernelModel}
use Rattle.catalogue_records.proofs.Walks.{rest, tail, end, id-model}

module _ (bank : List ℕ) where
  -- ---- 16

  pub reserved-here : (i id : ℕ) → i < length bank / 47 → id ≡ id_of (record_part bank i) → id ≡ 0
      → reserved_faults (rest bank i) ≡ fault 16 ∷ reserved_faults (rest bank (i + 1))
  unfolding reserved_faults
  reserved-here i id h e z = rw (tail bank i h, eq-eqb _ _ (sym (id-model bank i id e) ∙ z))

  pub reserved-later : (i id : ℕ) → i < length bank / 47 → id ≡ id_of (record_part bank i) → (id ≡ 0 → ⊥)
      → reserved_faults (rest bank i) ≡ reserved_faults (rest bank (i + 1))
  unfolding reserved_faults
  reserved-later i id h e z = rw (tail bank i h, ne_eqb _ _ (λ k. z (id-model bank i id e ∙ k)))

  pub reserved-none : (i : ℕ) → i ≡ length bank / 47 → reserved_faults (rest bank i) ≡ []
  unfolding reserved_faults
  reserved-none i e = rw (end bank i e)

  -- ---- 17

  pub flag-here : (i : ℕ) (m : KernelModel) → i < length bank / 47 → m ≡ model_at bank i → 1 < m.enabled
      → flag_faults (rest bank i) ≡ model_fault 17 0 m.model_id m.enabled ∷ flag_faults (rest bank (i + 1))
  unfolding flag_faults
  flag-here i m h e z = rw (tail bank i h, ← e, lt-ltb _ _ z)

  pub flag-later : (i : ℕ) (m : KernelModel) → i < length bank / 47 → m ≡ model_at bank i → m.enabled ≤ 1
      → flag_faults (rest bank i) ≡ flag_faults (rest bank (i + 1))
  unfolding flag_faults
  flag-later i m h e z = rw (tail bank i h, ← e, le-ltb _ _ z)

  pub flag-none : (i : ℕ) → i ≡ length bank / 47 → flag_faults (rest bank i) ≡ []
  unfolding flag_faults
  flag-none i e = rw (end bank i e)
