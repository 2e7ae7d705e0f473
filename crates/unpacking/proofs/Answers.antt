-- ANY TWO PERMITTED ANSWERS ARE EQUAL, for each call that a user makes. Assumes nothing.
use Rattle.rules.proofs.Kit.{ℕ, List}
use Rattle.rules.specs.Records.{model_of, input_of}
use Rattle.rules.proofs.Told.{Same, one_itself}

module _ (bytes : List ℕ) where
  pub one-model : Same (λ r. r) (model_of bytes)
  one-model = one_itself _

  pub one_input : Same (λ r. r) (input_of bytes)
  one_input = one_itself _
