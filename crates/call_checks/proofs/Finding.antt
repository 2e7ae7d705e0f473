-- The first listed record with an id, record by record. Assumes nothing.
use Rattle.rules.proofs.Kit.{ℕ, zero, suc, ◌+◌, ◌/◌, ◌<◌, zero-add, add-one, arith, ◌≡◌, refl, sym, ◌∙◌, Bool, true, false, cond, List, ◌∷◌}
use Rattle.rules.proofs.Kit.{Option, none, some, eqb, length, drop, drop-cons, drop-length}
use Rattle.rules.specs.{Choice.equal, Records.Listed, Records.listed, Records.listed_from, Records.listed_of, Records.model_at}
use Rattle.rules.specs.{Listing.first_listed, Listing.place_of}
use Rattle.rules.proofs.Choices.{equal-yes, equal-no}
use Rattle.bank.proofs.Listing.{length-listed, listed_at, nowhere}

module _ (bank : List ℕ) (id : ℕ) where
  -- the place of the first record with the id, from the i-th on
  abbrev pub found_from : ℕ → Option ℕ
  found_from i = place_of (first_listed id (drop i (listed_of bank)))

  tail : (i : ℕ) → i < length bank / 47 → drop i (listed_of bank) ≡ listed i (model_at bank i) ∷ drop (i + 1) (listed_of bank)
  tail i h =
      let k : i < length (listed_of bank) = rw length-listed h in
      rw (add-one, drop-cons (listed_of bank) i nowhere k, listed_at bank i nowhere h)

  -- THE RECORD HAS THE ID, OR THOSE AFTER IT DECIDE
  pub found_here : (i : ℕ) → i < length bank / 47 → (model_at bank i).model_id ≡ id → found_from i ≡ some i
  unfolding first_listed
  found_here i h e = rw (tail i h, equal-yes _ _ _ _ e)

  pub found-later : (i : ℕ) → i < length bank / 47 → ((model_at bank i).model_id ≡ id → ⊥) → found_from i ≡ found_from (i + 1)
  unfolding first_listed
  found-later i h e = rw (tail i h, equal-no _ _ _ _ e)

  pub found_none : (i : ℕ) → i ≡ length bank / 47 → found_from i ≡ none
  unfolding first_listed
  found_none i e = rw (e ∙ sym (length-listed bank), drop-length)

  -- what is found among some records is one of them
  among : (i k place : ℕ) → place_of (first_listed id (listed_from bank i k)) ≡ some place
      → (first_listed id (listed_from bank i k) ≡ some (listed place (model_at bank place))) × (place < i + k)
  unfolding first_listed equal
  among i zero place e = let z : ◌≡◌ {A = ℕ} 0 1 = cc in absurd (omega arith)
  among i (suc k) place e = go (eqb (model_at bank i).model_id id) (among (suc i) k place) e
    where
      go : (t : Bool) → (place_of (first_listed id (listed_from bank (suc i) k)) ≡ some place
          → (first_listed id (listed_from bank (suc i) k) ≡ some (listed place (model_at bank place))) × (place < suc i + k))
          → place_of (cond t (some (listed i (model_at bank i))) (first_listed id (listed_from bank (suc i) k))) ≡ some place
          → (cond t (some (listed i (model_at bank i))) (first_listed id (listed_from bank (suc i) k)) ≡ some (listed place (model_at bank place)))
          × (place < i + suc k)
      go true later e = let z : i ≡ place = cc in (rw z, omega arith)
      go false later e = let r = later e in (r.0, omega (arith, r.1))

  -- WHAT IS FOUND IS THE RECORD AT ITS PLACE
  pub found_at : (place : ℕ) → place_of (first_listed id (listed_of bank)) ≡ some place
      → (first_listed id (listed_of bank) ≡ some (listed place (model_at bank place))) × (place < length bank / 47)
  unfolding listed_of
  found_at place e = let r = among 0 (length bank / 47) place e in (r.0, rw zero-add at r.1)

  pub found_nothing : place_of (first_listed id (listed_of bank)) ≡ none → first_listed id (listed_of bank) ≡ none
  found_nothing e = go (first_listed id (listed_of bank)) e
    where
      go : (o : Option Listed) → place_of o ≡ none → o ≡ none
      go none e = refl
      go (some l) e = cc
