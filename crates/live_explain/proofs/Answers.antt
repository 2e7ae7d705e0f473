-- ANY TWO PERMITTED ANSWERS ARE EQUAL, of `explain` over live records with its list. Assumes nothing.
use Rattle.rules.proofs.Kit.{ℕ, List, ◌≡◌, sym, ◌∙◌}
use Rattle.rules.specs.{Numbers.told_prescribed, Live.live_explain_of, Live.live_explain_list}
use Rattle.rules.specs.{declared.records.KernelInput.KernelInput, declared.records.PolicySnapshot.PolicySnapshot}
use Rattle.rules.proofs.Told.{Same, one_prescribed}

module _ (p : PolicySnapshot) (q : KernelInput) (bank list : List ℕ) where
  pub one-live-explain : Same told_prescribed (live_explain_of p q bank list)
  one-live-explain = one_prescribed _

  pub one-live-list : (x y : List ℕ) → x ≡ live_explain_list p q bank list → y ≡ live_explain_list p q bank list → x ≡ y
  one-live-list x y d e = d ∙ sym e
