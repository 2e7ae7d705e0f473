-- The sentence of a choice: as it is put together, and which one a decision gets. Assumes nothing.
use Rattle.rules.proofs.Kit.{ℕ, ◌≡◌, refl, sym, [], ◌∷◌, ◌++◌, append_assoc, ne_eqb, ℤ}
use Rattle.rules.specs.{Choice.equal, Text.text, Text.signed_decimal, Phrases.sentence, Phrases.about, Phrases.comparing, Numbers.Decision}
use Rattle.rules.specs.{Words.chosen_words, Words.rejection_words, Numbers.reason_no}
use Rattle.rules.specs.declared.decision.KernelReason.{KernelReason}
use Rattle.rules.specs.declared.decision.KernelReason.TheVariants.{RiskHardLimit, ConfidenceHardLimit}
use Rattle.rules.specs.{declared.records.KernelInput.KernelInput, declared.records.PolicySnapshot.PolicySnapshot}

-- THE CHOSEN MODEL: two numbers, the utility, and the sentence's end
pub chosen_joins : {u : ℤ} (d : Decision) → u ≡ d.utility
    → comparing (text "Chosen: model ") d.model (text ", at a cost of ") d.cost (text " microunits, with a utility of ")
    ++ signed_decimal u ++ sentence (text " microunits.")
    ≡ chosen_words d
unfolding chosen_words sentence
chosen_joins d e =
    let two = comparing (text "Chosen: model ") d.model (text ", at a cost of ") d.cost (text " microunits, with a utility of ") in
    rw e (sym (append_assoc (two ++ signed_decimal d.utility) (text " microunits.") (10 ∷ [])))

module _ (p : PolicySnapshot) (q : KernelInput) where
  -- NO MODEL IS ELIGIBLE where the request isn't stopped
  pub none-eligible : (reason : ℕ) → (reason ≡ 100 → ⊥) → (reason ≡ 101 → ⊥)
      → sentence (about (text "Nothing is chosen: no model is eligible, with reason ") reason (text ".")) ≡ rejection_words p q reason
  unfolding rejection_words equal
  none-eligible reason h k = rw (ne_eqb reason 100 h, ne_eqb reason 101 k)

  -- the same by the reason's case
  pub none_eligible : (r : KernelReason) → (r ≡ RiskHardLimit → ⊥) → (r ≡ ConfidenceHardLimit → ⊥)
      → sentence (about (text "Nothing is chosen: no model is eligible, with reason ") (reason_no r) (text ".")) ≡ rejection_words p q (reason_no r)
  unfolding rejection_words equal
  none_eligible RiskHardLimit h k = absurd (h refl)
  none_eligible ConfidenceHardLimit h k = absurd (k refl)
  none_eligible _ h k = refl
