-- The records of a bank from a place on, and the tests of each by the ids before it: what one record hands back, or leaves to those after it. Assumes nothing.
use Rattle.rules.proofs.Kit.{eq-eqb, ne_eqb, ℕ, ◌+◌, ◌/◌, ◌<◌, ◌≤◌, add-one, arith, ◌≡◌, sym, ap, ◌∙◌, List, [], ◌∷◌, ◌++◌, length, get_or, take, drop}
use Rattle.rules.proofs.Kit.{length-map, List·get_d-map, take-suc, drop-cons, drop-length, length-take-le, get_or-take}
use Rattle.rules.specs.{Records.Listed, Records.listed, Records.listed_of, Records.model_of, Records.model_at, Records.record_part, Refused.Faults}
use Rattle.rules.specs.{Refused.model_fault, Validate.repeat_faults, Validate.record_faults, Validate.records_faults, Trust.id_of}
use Rattle.bank.proofs.Listing.{length-listed, listed_at}
use Rattle.catalogue_records.specs.Ids.{ids_of}

-- what stands past the end
abbrev nowhere : Listed
nowhere = listed 0 (model_of [])

abbrev pub no_id : ℕ
no_id = nowhere.model.model_id

module _ (bank : List ℕ) where
  -- the records from the i-th on
  abbrev pub rest : ℕ → List Listed
  rest i = drop i (listed_of bank)

  -- one of them and those after it
  pub tail : (i : ℕ) → i < length bank / 47 → rest i ≡ listed i (model_at bank i) ∷ rest (i + 1)
  tail i h =
      let k : i < length (listed_of bank) = rw length-listed h in
      rw (add-one, drop-cons (listed_of bank) i nowhere k, listed_at bank i nowhere h)

  -- none at the end
  pub end : (i : ℕ) → i ≡ length bank / 47 → rest i ≡ []
  end i e = rw (e ∙ sym (length-listed bank), drop-length)

  -- the id at a place
  pub id-model : (i id : ℕ) → id ≡ id_of (record_part bank i) → id ≡ (model_at bank i).model_id
  unfolding id_of
  id-model i id e = e

  -- ---- the ids before a place

  abbrev pub ids : List ℕ
  ids = ids_of (listed_of bank)

  pub length_ids : length ids ≡ length bank / 47
  length_ids = length-map (listed_of bank) (λ l. l.model.model_id) ∙ length-listed bank

  pub id-at-place : (i : ℕ) → i < length bank / 47 → get_or ids i no_id ≡ (model_at bank i).model_id
  id-at-place i h =
      List·get_d-map (λ l. l.model.model_id) (listed_of bank) i nowhere ∙ ap (λ (l : Listed). l.model.model_id) (listed_at bank i nowhere h)

  more-ids : (i : ℕ) → i < length bank / 47 → take (i + 1) ids ≡ take i ids ++ ((model_at bank i).model_id ∷ [])
  more-ids i h =
      let k : i < length ids = rw length_ids h in
      rw (add-one, take-suc ids i no_id k, id-at-place i h)

  -- ---- 12, from the i-th id before the place on

  abbrev pub before : ℕ → ℕ → List ℕ
  before place i = drop i (take place ids)

  before-length : (place : ℕ) → place ≤ length bank / 47 → length (take place ids) ≡ place
  before-length place p = length-take-le place ids (rw length_ids p)

  before-tail : (place i : ℕ) → place ≤ length bank / 47 → i < place → before place i ≡ (model_at bank i).model_id ∷ before place (i + 1)
  before-tail place i p h =
      let k : i < length (take place ids) = rw (before-length place p) h in
      rw (add-one, drop-cons (take place ids) i no_id k, get_or-take place ids i no_id h, id-at-place i (omega arith))

  module _ (place i seen id : ℕ) (p : place ≤ length bank / 47) (h : i < place) (its : seen ≡ id_of (record_part bank i)) where
    pub repeat-here : seen ≡ id → repeat_faults (before place i) id ≡ model_fault 12 0 id 0 ∷ repeat_faults (before place (i + 1)) id
    unfolding repeat_faults
    repeat-here z = rw (before-tail place i p h, eq-eqb _ _ (sym (id-model i seen its) ∙ z))

    pub repeat-later : (seen ≡ id → ⊥) → repeat_faults (before place i) id ≡ repeat_faults (before place (i + 1)) id
    unfolding repeat_faults
    repeat-later z = rw (before-tail place i p h, ne_eqb _ _ (λ k. z (id-model i seen its ∙ k)))

  pub repeat-none : (place i id : ℕ) → place ≤ length bank / 47 → i ≡ place → repeat_faults (before place i) id ≡ []
  unfolding repeat_faults
  repeat-none place i id p e = rw (e ∙ sym (before-length place p), drop-length)

  -- ---- record by record

  -- the records from the i-th on, by the ids before it
  abbrev pub records_left : ℕ → Faults
  records_left i = records_faults (take i ids) (rest i)

  pub records-next : (i : ℕ) → i < length bank / 47 → records_left i ≡ record_faults (take i ids) (model_at bank i) ++ records_left (i + 1)
  unfolding records_faults
  records-next i h = rw (more-ids i h, tail i h)

  pub records-end : (i : ℕ) → i ≡ length bank / 47 → records_left i ≡ []
  unfolding records_faults
  records-end i e = rw (end i e)
