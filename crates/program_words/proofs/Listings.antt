-- What is said of the first listed record with an id, by whether there is one. Assumes nothing.
use Rattle.rules.proofs.Kit.{ℕ, ◌≡◌, refl, sym, ap, ◌∙◌, Bool, true, false, cond, List, [], ◌∷◌, none, some, eqb-true, eqb}
use Rattle.rules.proofs.Kit.{Option·some-injective, Option·none-ne-some}
use Rattle.rules.specs.{Choice.equal, Records.Listed, Records.model_at, Records.listed_of, Numbers.Boundary, Listing.first_listed, Listing.place_of}
use Rattle.rules.specs.{Text.text, Phrases.sentence, Phrases.about, NotChosen.quality_of, Words.requested_words, Words.model_words, Words.listed_words}
use Rattle.rules.specs.{declared.records.KernelModel.KernelModel, declared.records.KernelInput.KernelInput}
use Rattle.rules.specs.declared.records.PolicySnapshot.{PolicySnapshot}
use Rattle.call_checks.proofs.Finding.{found_at, found_nothing}

-- THE RECORD THAT IS FOUND HAS THE ID
pub found_id : (id : ℕ) (ls : List Listed) {l : Listed} → first_listed id ls ≡ some l → l.model.model_id ≡ id
unfolding first_listed equal
found_id id [] {l} e = absurd (Option·none-ne-some l e)
found_id id (x ∷ ls) {l} e = go (eqb x.model.model_id id) refl (found_id id ls) e
  where
    go : (t : Bool) → eqb x.model.model_id id ≡ t → (first_listed id ls ≡ some l → l.model.model_id ≡ id)
        → cond t (some x) (first_listed id ls) ≡ some l → l.model.model_id ≡ id
    go true k later e = ap (λ (y : Listed). y.model.model_id) (sym (Option·some-injective x l e)) ∙ eqb-true _ _ k
    go false k later e = later e

module _ (id : ℕ) (bank : List ℕ) where
  module _ (nowhere : place_of (first_listed id (listed_of bank)) ≡ none) where
    -- None is listed: its quality is 0, a request for it is remarked on, and nothing else is said of it
    pub quality-nowhere : 0 ≡ quality_of (first_listed id (listed_of bank))
    quality-nowhere = rw (found_nothing bank id nowhere)

    pub requested-nowhere :
        sentence (about (text "The requested model ") id (text " is not listed.")) ≡ requested_words id (first_listed id (listed_of bank))
    requested-nowhere = rw (found_nothing bank id nowhere)

    pub listed-nowhere : (p : PolicySnapshot) (q : KernelInput) (b : Boundary)
        → [] ≡ listed_words p q (listed_of bank) id (first_listed id (listed_of bank)) b
    listed-nowhere p q b = rw (found_nothing bank id nowhere)

  module _ {place : ℕ} (here : place_of (first_listed id (listed_of bank)) ≡ some place) where
    -- One is listed: its quality, no remark, and what is said of its model
    pub requested-at : [] ≡ requested_words id (first_listed id (listed_of bank))
    requested-at = rw (found_at bank id place here).0

    module _ {m : KernelModel} (is : m ≡ model_at bank place) where
      pub quality-at : m.quality_bps ≡ quality_of (first_listed id (listed_of bank))
      quality-at = rw ((found_at bank id place here).0, is)

      pub listed_at : (p : PolicySnapshot) (q : KernelInput) (b : Boundary)
          → model_words p q (listed_of bank) m.model_id m b ≡ listed_words p q (listed_of bank) id (first_listed id (listed_of bank)) b
      listed_at p q b =
          let found = (found_at bank id place here).0 in
          rw (found, is, found_id id (listed_of bank) found)
