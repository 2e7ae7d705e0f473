-- ANY TWO PERMITTED ANSWERS ARE EQUAL, for each call that a user makes. Assumes nothing.
use Rattle.rules.specs.{Records.model_bytes, Records.input_bytes, Records.policy_number_bytes, Records.policy_in_bytes, declared.records.KernelModel.KernelModel}
use Rattle.rules.specs.{declared.records.KernelInput.KernelInput, declared.records.PolicySnapshot.PolicySnapshot}
use Rattle.rules.proofs.Told.{Same, one_itself}

pub one_model_bytes : (m : KernelModel) → Same (λ r. r) (model_bytes m)
one_model_bytes m = one_itself _

pub one_input_bytes : (q : KernelInput) → Same (λ r. r) (input_bytes q)
one_input_bytes q = one_itself _

pub one_policy_number_bytes : (p : PolicySnapshot) → Same (λ r. r) (policy_number_bytes p)
one_policy_number_bytes p = one_itself _

pub one_policy_bytes : (p : PolicySnapshot) → Same (λ r. r) (policy_in_bytes p)
one_policy_bytes p = one_itself _
