-- ANY TWO PERMITTED ANSWERS ARE EQUAL, for each call that a user makes. Assumes nothing.
use denote.Ref.{Bor}
use Rattle.rules.proofs.Kit.{ℕ, List, ◌≡◌, sym, ◌∙◌}
use Rattle.rules.specs.{Numbers.told_prescribed, View.view_of, declared.records.KernelModel.KernelModel, declared.records.KernelInput.KernelInput}
use Rattle.rules.specs.{declared.records.PolicySnapshot.PolicySnapshot, declared.decision.KernelDecision.KernelDecision, declared.refusal.Refusal.Refusal}
use Rattle.std.specs.Prelude.{Result}
use Rattle.rules.proofs.Told.{one_prescribed}
use Rattle.view.specs.declared.View.{View}

-- What `with_model` promises of a view leaves one view
pub one_with_model : (bank : Bor (List ℕ)) (index : ℕ) (m : KernelModel) (r s : View) → (r.bank ≡ bank) × (r.index ≡ index) × (r.model ≡ m)
    → (s.bank ≡ bank) × (s.index ≡ index) × (s.model ≡ m) → r ≡ s
one_with_model bank index m r s p q =
    λ i. record { bank = (p.0 ∙ sym q.0) i; index = (p.1 ∙ sym q.1) i; model = (p.2 ∙ sym q.2) i }

module _ (p : PolicySnapshot) (q : KernelInput) (bank : List ℕ) (index : ℕ) (m : KernelModel) where
  -- `view_decide` and `decided`
  pub one-decided : (r s : Result KernelDecision Refusal) → told_prescribed r ≡ view_of p q bank index m → told_prescribed s ≡ view_of p q bank index m → r ≡ s
  one-decided = one_prescribed _
