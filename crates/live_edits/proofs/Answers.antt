-- ANY TWO PERMITTED ANSWERS ARE EQUAL, and any two permitted banks, for each call that a user makes. Assumes nothing.
use Rattle.rules.proofs.Kit.{ℕ, List, ◌≡◌, sym, ◌∙◌}
use Rattle.rules.specs.{Refused.Answer, Numbers.EditedPolicy, Numbers.told_edited, Edits.add_of, Edits.add_bank, Edits.replace_of, Edits.replace_bank}
use Rattle.rules.specs.{Edits.remove_of, Edits.remove_bank, declared.refusal.Refusal.Refusal, declared.records.PolicySnapshot.PolicySnapshot}
use Rattle.rules.proofs.ToldStored.{one_edited}
use Rattle.std.specs.Prelude.{Result}

-- an answer with the bank at exit, as a promise permits them, and that any two such are equal
abbrev pub Permitted : Answer EditedPolicy → List ℕ → Result (PolicySnapshot × ℕ) Refusal → List ℕ → Type 0
Permitted rule bank r exit = (told_edited r ≡ rule) × (exit ≡ bank)

abbrev pub Same : Answer EditedPolicy → List ℕ → Type 0
Same rule bank = (r s : Result (PolicySnapshot × ℕ) Refusal) (a b : List ℕ) → Permitted rule bank r a → Permitted rule bank s b → (r ≡ s) × (a ≡ b)

pub one_edit : (rule : Answer EditedPolicy) (bank : List ℕ) → Same rule bank
one_edit rule bank r s a b x y = (one_edited rule r s x.0 y.0, x.1 ∙ sym y.1)

module _ (p : PolicySnapshot) (bank : List ℕ) where
  pub one-add : (r : List ℕ) → Same (add_of p bank r) (add_bank p bank r)
  one-add r = one_edit _ _

  pub one-replace : (r : List ℕ) → Same (replace_of p bank r) (replace_bank p bank r)
  one-replace r = one_edit _ _

  pub one-remove : (id : ℕ) → Same (remove_of p bank id) (remove_bank p bank id)
  one-remove id = one_edit _ _
