-- ANY TWO PERMITTED ANSWERS ARE EQUAL: what is told has a way back, and the bank at exit is the rule's. Assumes nothing.
use Rattle.rules.proofs.Kit.{ℕ, List, ◌≡◌, sym, ◌∙◌}
use Rattle.std.specs.Prelude.{Result, ⊤}
use Rattle.rules.specs.{Refused.told_outcome, Trust.trust_of, Trust.trust_bank, declared.refusal.Refusal.Refusal}
use Rattle.rules.specs.{declared.records.PolicySnapshot.PolicySnapshot}
use Rattle.rules.proofs.Told.{one_outcome}

module _ (p : PolicySnapshot) (bank : List ℕ) where
  -- what `trust` promises of its answer and of the bank at exit
  abbrev pub Permitted : Result ⊤ Refusal → List ℕ → Type 0
  Permitted r exit = (told_outcome r ≡ trust_of p bank) × (exit ≡ trust_bank bank)

  pub one-trust : (r s : Result ⊤ Refusal) (a b : List ℕ) → Permitted r a → Permitted s b → (r ≡ s) × (a ≡ b)
  one-trust r s a b x y = (one_outcome _ r s x.0 y.0, x.1 ∙ sym y.1)
