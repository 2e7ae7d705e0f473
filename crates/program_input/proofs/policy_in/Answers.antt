-- `program_input::policy_in` meets its contract. Assumes nothing.
use Rattle.stored_layout.proofs.Openings.{opening}
use Rattle.program_input.proofs.{Tests.fields}
use Rattle.program_input.proofs.policy_in.Goals as goal

pub policy_in-requires : goal.policy_in-requires
policy_in-requires c = opening _ _ (fields _ c.requires)
