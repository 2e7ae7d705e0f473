-- ANY TWO PERMITTED ANSWERS ARE EQUAL, of `explain` with its list. Assumes nothing.
use Rattle.rules.proofs.Kit.{ℕ, List, ◌≡◌, sym, ◌∙◌}
use Rattle.rules.specs.{Numbers.told_prescribed, Explain.explain_of, Explain.explain_list}
use Rattle.rules.specs.{declared.records.KernelInput.KernelInput, declared.records.PolicySnapshot.PolicySnapshot}
use Rattle.rules.proofs.Told.{Same, one_prescribed}

module _ (p : PolicySnapshot) (q : KernelInput) (bank list : List ℕ) where
  pub one-explain : Same told_prescribed (explain_of p q bank list)
  one-explain = one_prescribed _

  pub one_list : (x y : List ℕ) → x ≡ explain_list p q bank list → y ≡ explain_list p q bank list → x ≡ y
  one_list x y d e = d ∙ sym e
