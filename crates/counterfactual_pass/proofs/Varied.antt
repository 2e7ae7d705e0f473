-- The list with a model in the stead of the first record with an id, as a list with another element at its place. Assumes nothing.
use Rattle.rules.proofs.Kit.{ℕ, zero, suc, ◌-◌, ◌≤◌, arith, ◌≡◌, ap, Bool, true, false, cond, List, ◌∷◌, some, eqb, length, set}
use Rattle.rules.specs.{Choice.equal, Records.Listed, Records.listed, Records.listed_from, Records.listed_of, Records.records_in, Records.model_at}
use Rattle.rules.specs.{Listing.first_listed, Listing.place_of, Levers.varied, declared.records.KernelModel.KernelModel}

module _ (bank : List ℕ) (id : ℕ) (m : KernelModel) where
  -- among the records from the i-th on
  among : (i k place : ℕ) → place_of (first_listed id (listed_from bank i k)) ≡ some place
      → (i ≤ place) × (varied id m (listed_from bank i k) ≡ set (listed_from bank i k) (place - i) (listed place m))
  unfolding first_listed varied equal
  among i zero place e = let z : ◌≡◌ {A = ℕ} 0 1 = cc in absurd (omega arith)
  among i (suc k) place e = go (eqb (model_at bank i).model_id id) (among (suc i) k place) e
    where
      here : Listed
      here = listed i (model_at bank i)

      rest : List Listed
      rest = listed_from bank (suc i) k

      go : (t : Bool) → (place_of (first_listed id rest) ≡ some place → (suc i ≤ place) × (varied id m rest ≡ set rest (place - suc i) (listed place m)))
          → place_of (cond t (some here) (first_listed id rest)) ≡ some place
          → (i ≤ place) × (cond t (listed i m ∷ rest) (here ∷ varied id m rest) ≡ set (here ∷ rest) (place - i) (listed place m))
      go true later e =
          let z : i ≡ place = cc in
          let w : place - i ≡ 0 = omega arith in
          (omega arith, rw (w, z))
      go false later e =
          let r = later e in
          let w : place - i ≡ suc (place - suc i) = omega arith in
          (omega arith, rw w (ap (λ l. here ∷ l) r.1))

  -- THE FIRST LISTED RECORD WITH THE ID IS THE ONE THAT IS VARIED
  pub varied-at : (place : ℕ) → place_of (first_listed id (listed_of bank)) ≡ some place → varied id m (listed_of bank) ≡ set (listed_of bank) place (listed place m)
  unfolding listed_of
  varied-at place e =
      let w : place - 0 ≡ place = omega arith in
      rw w at (among 0 (records_in (length bank)) place e).1
