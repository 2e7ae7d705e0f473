-- Ids that rise are all different. Assumes nothing.
use Rattle.rules.proofs.Kit.{ℕ, zero, suc, ◌+◌, ◌/◌, ◌<◌, ◌≤◌, add-one, arith, ◌≡◌, refl, sym, ◌∙◌, Bool, true, false, cond, List, [], ◌∷◌, ltb-false, ne_eqb}
use Rattle.rules.proofs.Kit.{ltb, length, get_or, take, drop, drop-cons, drop-length}
use Rattle.rules.specs.{Choice.below, Records.model_at, Records.record_part, Validate.repeat_faults, Trust.id_of}
use Rattle.rules.proofs.Choices.{below-yes, below-no}
use Rattle.catalogue_records.specs.Ids.{rises_from}
use Rattle.catalogue_records.proofs.Walks.{no_id, ids, length_ids, id-at-place, id-model}

-- the first of rising ids is at the least, and those after it rise from one above it
first_rises : (least id : ℕ) (rest : List ℕ) → rises_from least (id ∷ rest) ≡ true → (least ≤ id) × (rises_from (id + 1) rest ≡ true)
unfolding rises_from below
first_rises least id rest e = go (ltb id least) refl e
  where
    go : (t : Bool) → ltb id least ≡ t → cond t false (rises_from (id + 1) rest) ≡ true → (least ≤ id) × (rises_from (id + 1) rest ≡ true)
    go true p h = let z : ◌≡◌ {A = ℕ} 0 1 = cc in absurd (omega arith)
    go false p h = (ltb-false id least p, h)

-- none is below the least
none_below : (least q d : ℕ) (is : List ℕ) → rises_from least is ≡ true → q < length is → least ≤ get_or is q d
none_below least q d [] e h = absurd (omega arith)
none_below least zero d (i ∷ is) e h = (first_rises least i is e).0
none_below least (suc q) d (i ∷ is) e h =
    let f = first_rises least i is e in
    omega (arith, f.0, none_below (i + 1) q d is f.1 (omega arith))

-- RISING IDS ARE NOT REPEATED
none_repeated : (least p d : ℕ) (is : List ℕ) → rises_from least is ≡ true → p < length is → repeat_faults (take p is) (get_or is p d) ≡ []
unfolding repeat_faults
none_repeated least zero d is e h = refl
none_repeated least (suc p) d [] e h = absurd (omega arith)
none_repeated least (suc p) d (i ∷ is) e h =
    let f = first_rises least i is e in
    let above : i + 1 ≤ get_or is p d = none_below (i + 1) p d is f.1 (omega arith) in
    rw (ne_eqb i (get_or is p d) (λ k. omega arith)) (none_repeated (i + 1) p d is f.1 (omega arith))

module _ (bank : List ℕ) where
  pub rising-unrepeated : (place : ℕ) → place < length bank / 47 → true ≡ rises_from 0 (ids bank)
      → repeat_faults (take place (ids bank)) (model_at bank place).model_id ≡ []
  rising-unrepeated place h e =
      rw (← id-at-place bank place h) (none_repeated 0 place no_id (ids bank) (sym e) (rw length_ids h))

  -- ---- the test, from the i-th id on

  abbrev pub rises_left : ℕ → ℕ → Bool
  rises_left least i = rises_from least (drop i (ids bank))

  ids-tail : (i : ℕ) → i < length bank / 47 → drop i (ids bank) ≡ (model_at bank i).model_id ∷ drop (i + 1) (ids bank)
  ids-tail i h = rw (add-one, drop-cons (ids bank) i no_id (rw length_ids h), id-at-place bank i h)

  module _ (least i id : ℕ) (h : i < length bank / 47) (its : id ≡ id_of (record_part bank i)) where
    pub rises-no : id < least → rises_left least i ≡ false
    unfolding rises_from
    rises-no z = rw (ids-tail i h, ← id-model bank i id its, below-yes _ _ _ _ z)

    pub rises-on : least ≤ id → rises_left least i ≡ rises_left (id + 1) (i + 1)
    unfolding rises_from
    rises-on z = rw (ids-tail i h, ← id-model bank i id its, below-no _ _ _ _ z)

  pub rises-all : (least i : ℕ) → i ≡ length bank / 47 → rises_left least i ≡ true
  unfolding rises_from
  rises-all least i e = rw (e ∙ sym (length_ids bank), drop-length)
