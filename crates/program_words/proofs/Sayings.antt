-- What is said of a model, by whether the request is stopped and whether it is chosen. Assumes nothing.
use Rattle.rules.proofs.Kit.{ℕ, ◌≡◌, sym, ◌∙◌, List, ◌++◌, Bool, true, false, eqb}
use Rattle.rules.specs.{Records.Listed, Numbers.Verdict, Numbers.Boundary, Listing.first_listed, Verdict.verdict_of, Levers.selects}
use Rattle.rules.specs.{NotChosen.quality_of, NotChosen.standing_words, Words.searched_words, Words.stopped_words, Words.already_words, Words.model_words}
use Rattle.rules.specs.{declared.records.KernelModel.KernelModel, declared.records.KernelInput.KernelInput}
use Rattle.rules.specs.declared.records.PolicySnapshot.{PolicySnapshot}

module _ (p : PolicySnapshot) (q : KernelInput) (ls : List Listed) (id : ℕ) (m : KernelModel) (b : Boundary) where
  -- The request is stopped
  pub stopped-said : b.blocked ≡ true → stopped_words ≡ model_words p q ls id m b
  unfolding model_words
  stopped-said e = rw e

  module _ {s : Bool} (free : b.blocked ≡ false) (told : s ≡ selects id b.decision) where
    -- else the model is chosen already
    pub already-said : s ≡ true → already_words id ≡ model_words p q ls id m b
    unfolding model_words
    already-said e = rw (free, sym told ∙ e)

    -- else why it isn't, and what would make it the choice
    pub unchosen-said : {v : Verdict} {highest : ℕ} → s ≡ false → v ≡ verdict_of p q m → highest ≡ quality_of (first_listed b.decision.model ls)
        → standing_words id v m.quality_bps b.decision highest ++ searched_words (eqb m.enabled 0) b ≡ model_words p q ls id m b
    unfolding model_words
    unchosen-said e verdict quality = rw (free, sym told ∙ e, verdict, quality)
